-- What a draw from the engine below does to what a selector owes.
use Rattle.std.proofs.Common.{◌≡◌, ℕ, ◌<◌, ◌≤◌, Bool, true, false, ◌||◌, ◌⊎◌, inl, inr, List, [], ◌∷◌, ◌++◌, Option, Some, None, Result, Ok, Err, refl, sym, ap, subst, arith}
use Rattle.std.specs.Bool.{Decides}
use Rattle.std.specs.List.{count_by}
use Rattle.std.proofs.lemmas.Bool.Decides.{Decides-or, Decides-and, Decides-not}
use Rattle.std.proofs.lemmas.List.Quantifiers.{Any-push}
use Rattle.symk_task.specs.declared.parts.Mode.{Mode}
use Rattle.symk_task.specs.declared.parts.Mode.TheVariants.{TopK, Unordered}
use Rattle.symk_task.specs.Plans.{Same, IsListed}
use Rattle.task_system.specs.System.{System, IsSystemPlan, cost_in_system, same, are_equal}
use Rattle.task_system.proofs.SameLaw.{same_law}
use Rattle.lazy_plans.specs.Law.{Gave, PendsAlike, MayStop, Fair, Turned, top}
use Rattle.lazy_plans.specs.declared.stop.Stop.{Stop}
use Rattle.lazy_plans.specs.declared.stop.Stop.TheVariants.{Memory, CostRange}
use Rattle.lazy_plans.proofs.Given.{stays_trans, turned_from}
use Rattle.lazy_plans.proofs.ListLaw.{any_left, push_cases}
use Rattle.lazy_plans.proofs.Told.{equal_is, equal_self}
use Rattle.lazy_plans.specs.SelectorsOwe.{AreKeys, Unlisted, OrHeld, Owes, is_unlisted, is_held, owes}
use Rattle.lazy_plans.proofs.Rearranged.{orders_all, count_falls}
use Rattle.lazy_plans.proofs.Keyed.{same_self, same_flip, same_chain, listed_same, listed_told, listed_cheap, listed_order}

-- A test that a fact decides.

off : {A : Type 0} (b : Bool) → Decides b A → ¬ A → b ≡ false
off true d n = absurd (n (d.0 refl))
off false d n = refl

apart : {A : Type 0} (b : Bool) → Decides b A → b ≡ false → ¬ A
apart true d e a = cc
apart false d e a = let f = d.1 a in cc

cases : {A : Type 0} (b : Bool) → Decides b A → A ⊎ (b ≡ false)
cases true d = inl (d.0 refl)
cases false d = inr refl

not_less : (a b : ℕ) → a ≤ b → b < a → ⊥
not_less a b h k = omega arith

-- What pends stays.

pub unlisted_stays : (mode : Mode) (keys : List (List ℕ)) (before after : List ℕ → Type 0) → PendsAlike before after
    → PendsAlike (Unlisted mode keys before) (Unlisted mode keys after)
unlisted_stays mode keys before after s q = ((λ h. (h.0, (s q).0 h.1)), (λ h. (h.0, (s q).1 h.1)))

none_some : (p : List ℕ) → None ≡ Some p → ⊥
none_some p e = cc

some_is : (p q : List ℕ) → Some p ≡ Some q → p ≡ q
some_is p q e = cc

-- nothing is held
pub held_none : (below : List ℕ → Type 0) → PendsAlike below (OrHeld below None)
held_none below q = ((λ h. elim h [ inl b ↦ b | inr e ↦ absurd (none_some q e) ]), (λ b. inl b))

-- at first nothing is held
pub begun : (keys : List (List ℕ)) (below : List ℕ → Type 0) → PendsAlike (Owes below keys None) (Unlisted Unordered keys below)
begun keys below q = ((λ h. (h.0, inl h.1)), (λ h. (h.0, (held_none below q).0 h.1)))

-- the law where the same pends after the call as later
turned_to : (system : System) (mode : Mode) (most : Option ℕ) (a b c : List ℕ → Type 0)
    (r : Result (Option (List ℕ)) Stop) → Turned system mode most a b r → PendsAlike b c → Turned system mode most a c r
turned_to system mode most a b c (Ok (Some p)) g s = record {
  pended = g.pended;
  fits = g.fits;
  least = g.least;
  rest = λ q. ((λ h. (g.rest q).0 ((s q).0 h)), (λ h. (s q).1 ((g.rest q).1 h)));
}
turned_to system mode most a b c (Ok None) h s = (h.0, stays_trans a b c h.1 s)
turned_to system mode most a b c (Err stop) h s = (h.0, stays_trans a b c h.1 s)

-- A plan that the engine below, of a mode whose plans that count as one do so here too, gave.
module _ (system : System) (below mode : Mode) (most : Option ℕ)
    (finer : (p q : List ℕ) → Same below p q → Same mode p q) (keys : List (List ℕ))
    (before after : List ℕ → Type 0) (p : List ℕ) (gave : Gave system below most before after p) where
  -- what counts as one with no p still pends
  left : (q : List ℕ) → before q → ¬ Same mode q p → after q
  left q b n = (gave.rest q).1 (b, off (same below q p) (same_law below q p) (λ s. n (finer q p s)))

  -- one that is listed is skipped
  skipped : IsListed mode keys p → PendsAlike (Unlisted mode keys before) (Unlisted mode keys after)
  skipped listed q = (
    (λ h. (h.0, ((gave.rest q).0 h.1).0)),
    (λ h. (h.0, left q h.1 (λ s. h.0 (listed_same mode keys p q s listed)))),
  )

  -- one that is not is given, and its key is listed from then on
  gives_key : (key : List ℕ) → Same mode p key → ¬ IsListed mode keys p
      → Gave system mode most (Unlisted mode keys before) (Unlisted mode (keys ++ key ∷ []) after) p
  gives_key key is fresh = record {
    pended = (fresh, gave.pended);
    fits = gave.fits;
    least = λ q h. gave.least q h.1;
    rest = λ q. (
      (λ h. (
        ((λ m. h.0 (any_left (Same mode q) keys key m)), ((gave.rest q).0 h.1).0),
        off (same mode q p) (same_law mode q p) (λ s. h.0 (Any-push (Same mode q) keys key (same_chain mode q p key s is))),
      )),
      (λ h.
          let n : ¬ Same mode q p = apart (same mode q p) (same_law mode q p) h.1 in (
            (λ m. elim (push_cases (Same mode q) keys key m) [
              | inl a ↦ h.0.0 a
              | inr s ↦ n (same_chain mode q key p s (same_flip mode p key is))
            ]),
            left q h.0.1 n,
          )),
    );
  }

-- The answers that end it.

-- a plan that is too dear is not listed
dear_unlisted : (system : System) (mode : Mode) (most : Option ℕ) (keys : List (List ℕ)) (q : List ℕ)
    → AreKeys system mode most keys → top most < cost_in_system system q → ¬ IsListed mode keys q
dear_unlisted system mode most keys q ok dear m = not_less (cost_in_system system q) (top most) (listed_cheap system mode (top most) keys q ok.cheap m) dear

stops : (system : System) (mode : Mode) (most : Option ℕ) (keys : List (List ℕ)) (before : List ℕ → Type 0)
    (stop : Stop) → AreKeys system mode most keys → MayStop system most before stop
    → MayStop system most (Unlisted mode keys before) stop
stops system mode None keys before Memory ok h = tt
stops system mode (Some c) keys before Memory ok h = tt
stops system mode None keys before CostRange ok h = ((h.0.0, (dear_unlisted system mode None keys h.0.0 ok (h.1 h.0.0 h.0.1), h.0.1)), (λ q o. h.1 q o.1))
stops system mode (Some c) keys before CostRange ok h = absurd h

-- What a value of a selector owes is fair, and is computed.

pub fair_unlisted : (system : System) (own mode : Mode) (most : Option ℕ) (keys : List (List ℕ))
    (before : List ℕ → Type 0) → own ≡ mode → AreKeys system own most keys → Fair system mode most before
    → Fair system own most (Unlisted own keys before)
fair_unlisted system own mode most keys before is ok fair0 =
    let fair : Fair system own most before = rw (sym is) at fair0 in
    record {
      members = λ p h. fair.members p h.1;
      dearer = λ p i dear. (dear_unlisted system own most keys p ok dear, fair.dearer p i dear);
    }

pub fair_owes : (system : System) (mode : Mode) (most : Option ℕ) (keys : List (List ℕ)) (held : Option (List ℕ))
    (below : List ℕ → Type 0) → mode ≡ TopK → AreKeys system Unordered most keys
    → ((p : List ℕ) → held ≡ Some p → IsSystemPlan system p) → Fair system mode most below
    → Fair system Unordered most (Owes below keys held)
fair_owes system mode most keys held below topk ok plan fair0 =
    let fair : Fair system TopK most below = rw topk at fair0 in
    record {
      members = λ p h. elim h.1 [ inl b ↦ fair.members p b | inr e ↦ plan p e ];
      dearer = λ p i dear. (dear_unlisted system Unordered most keys p ok dear, inl (fair.dearer p i dear));
    }

pub told_unlisted : (mode : Mode) (keys : List (List ℕ)) (below : List ℕ → Type 0) (tells : List ℕ → Bool)
    (p : List ℕ) → Decides (tells p) (below p) → Decides (is_unlisted mode keys tells p)
    (Unlisted mode keys below p)
told_unlisted mode keys below tells p told = Decides-and _ _ (Decides-not _ (listed_told mode keys p)) told

held_told : (held : Option (List ℕ)) (p : List ℕ) → Decides (is_held held p) (held ≡ Some p)
held_told None p = ((λ e. cc), (λ e. absurd (none_some p e)))
held_told (Some q) p = ((λ e. ap Some (sym (equal_is p q e))), (λ e. subst (λ (z : List ℕ). are_equal p z ≡ true) (sym (some_is q p e)) (equal_self p)))

pub told_owes : (below : List ℕ → Type 0) (tells : List ℕ → Bool) (keys : List (List ℕ)) (held : Option (List ℕ))
    (p : List ℕ) → Decides (tells p) (below p) → Decides (owes tells keys held p) (Owes below keys held p)
told_owes below tells keys held p told = told_unlisted Unordered keys (OrHeld below held)
    (λ q. tells q || is_held held q) p (Decides-or _ _ told (held_told held p))

-- Skipping ends.

-- how many rearrangements of the keys still pend below
abbrev pub still : (List ℕ → Bool) → List (List ℕ) → ℕ
still tells keys = count_by tells (orders_all keys)

pub still_falls : {system : System} {below : Mode} (mode : Mode) {most : Option ℕ} (keys : List (List ℕ))
    {before after : List ℕ → Type 0} {p : List ℕ} (tells later : List ℕ → Bool)
    → ((q : List ℕ) → Decides (tells q) (before q)) → ((q : List ℕ) → Decides (later q) (after q))
    → Gave system below most before after p → IsListed mode keys p → still later keys < still tells keys
still_falls {below = below} mode keys {p = p} tells later told told_later gave listed =
    count_falls tells later (orders_all keys) p
    (λ q e. (told q).1 ((gave.rest q).0 ((told_later q).0 e)).0)
    (listed_order mode keys p listed)
    ((told p).1 gave.pended)
    (off (later p) (told_later p) (λ a. apart (same below p p) (same_law below p p) ((gave.rest p).0 a).1 (same_self below p)))

-- The answers of a draw where rearrangements count as one, seen from the value at entry.

equal_alike : (p q : List ℕ) → Same TopK p q → Same Unordered p q
equal_alike p q e = subst (λ (z : List ℕ). Same Unordered p z) e (same_self Unordered p)

module _ (system : System) (most : Option ℕ) (keys : List (List ℕ)) (first before after : List ℕ → Type 0)
    (stays : PendsAlike (Owes first keys None) (Unlisted Unordered keys before)) where
  pub law_fresh : (p key : List ℕ) (later : List (List ℕ)) (held : Option (List ℕ))
      → Gave system TopK most before after p → Same Unordered p key → ¬ IsListed Unordered keys p
      → later ≡ keys ++ key ∷ [] → held ≡ None → Gave system Unordered most (Owes first keys None)
      (Owes after later held) p
  law_fresh p key later held gave is fresh more none = rw (more, none) (
      turned_to system Unordered most (Owes first keys None) (Unlisted Unordered (keys ++ key ∷ []) after) (Owes after (keys ++ key ∷ []) None) (Ok (Some p))
      (turned_from system Unordered most (Owes first keys None) (Unlisted Unordered keys before)
      (Unlisted Unordered (keys ++ key ∷ []) after) (Ok (Some p)) stays
      (gives_key system TopK Unordered most equal_alike keys before after p gave key is fresh))
      (unlisted_stays Unordered (keys ++ key ∷ []) after (OrHeld after None) (held_none after)))

  pub law_skips : (p : List ℕ) → Gave system TopK most before after p → IsListed Unordered keys p
      → PendsAlike (Owes first keys None) (Unlisted Unordered keys after)
  law_skips p gave listed = stays_trans (Owes first keys None) (Unlisted Unordered keys before)
      (Unlisted Unordered keys after) stays (skipped system TopK Unordered most equal_alike keys before after p gave
      listed)

  -- memory was refused for the key of p
  pub law_held : (p : List ℕ) (later : List (List ℕ)) → Gave system TopK most before after p → later ≡ keys
      → PendsAlike (Owes first keys None) (Owes after later (Some p))
  law_held p later gave kept = rw kept (stays_trans (Owes first keys None) (Unlisted Unordered keys before)
      (Owes after keys (Some p)) stays (unlisted_stays Unordered keys before (OrHeld after (Some p)) hold))
    where
      hold : PendsAlike before (OrHeld after (Some p))
      hold q = (
        (λ h. elim h [ inl a ↦ ((gave.rest q).0 a).0 | inr e ↦ subst before (some_is p q e) gave.pended ]),
        (λ b. elim (cases (same TopK q p) (same_law TopK q p)) [ inl e ↦ inr (ap Some (sym e)) | inr e ↦ inl ((gave.rest q).1 (b, e)) ]),
      )

  ended : (r : Result (Option (List ℕ)) Stop) (later : List (List ℕ)) (held : Option (List ℕ))
      → Turned system Unordered most (Unlisted Unordered keys before) (Unlisted Unordered keys after) r
      → later ≡ keys → held ≡ None → Turned system Unordered most (Owes first keys None) (Owes after later held) r
  ended r later held h kept none = rw (kept, none) (
      turned_to system Unordered most (Owes first keys None) (Unlisted Unordered keys after) (Owes after keys None) r
      (turned_from system Unordered most (Owes first keys None) (Unlisted Unordered keys before) (Unlisted Unordered keys after) r stays h)
      (unlisted_stays Unordered keys after (OrHeld after None) (held_none after)))

  pub law_stop : (stop : Stop) (later : List (List ℕ)) (held : Option (List ℕ)) → AreKeys system Unordered most keys
      → MayStop system most before stop × PendsAlike before after → later ≡ keys → held ≡ None
      → MayStop system most (Owes first keys None) stop × PendsAlike (Owes first keys None) (Owes after later held)
  law_stop stop later held ok h kept none = ended (Err stop) later held
      (stops system Unordered most keys before stop ok h.0, unlisted_stays Unordered keys before after h.1) kept
      none

-- The answers of a draw after an earlier list.
module _ (system : System) (mode : Mode) (most : Option ℕ) (keys : List (List ℕ))
    (first before after : List ℕ → Type 0) (stays : PendsAlike (Unlisted mode keys first)
    (Unlisted mode keys before)) where
  pub after_skips : (p : List ℕ) → Gave system mode most before after p → IsListed mode keys p
      → PendsAlike (Unlisted mode keys first) (Unlisted mode keys after)
  after_skips p gave listed = stays_trans (Unlisted mode keys first) (Unlisted mode keys before)
      (Unlisted mode keys after) stays (skipped system mode mode most (λ p q h. h) keys before after p gave listed)

  pub after_stop : (stop : Stop) → AreKeys system mode most keys → MayStop system most before stop × PendsAlike before after
      → MayStop system most (Unlisted mode keys first) stop × PendsAlike (Unlisted mode keys first)
      (Unlisted mode keys after)
  after_stop stop ok h = turned_from system mode most (Unlisted mode keys first) (Unlisted mode keys before)
      (Unlisted mode keys after) (Err stop) stays (
        stops system mode most keys before stop ok h.0,
        unlisted_stays
            mode keys before after h.1,
      )

-- What a draw from an engine that keeps members does to the classes that are left.
use Rattle.std.proofs.Common.{◌≡◌, ℕ, ◌<◌, ◌≤◌, Bool, true, false, inl, inr, List, [], ◌∷◌, ◌++◌, Option, Some, None, refl, arith}
use Rattle.std.specs.Bool.{Decides}
use Rattle.std.proofs.lemmas.List.Quantifiers.{Any-push}
use Rattle.symk_task.specs.declared.parts.Mode.TheVariants.{Unordered}
use Rattle.symk_task.specs.Plans.{Same, IsListed}
use Rattle.task_system.specs.System.{System, IsSystemPlan, cost_in_system, same}
use Rattle.task_system.proofs.SameLaw.{same_law}
use Rattle.lazy_plans.specs.Law.{Gave, PendsAlike, MayStop, NoneLeft, Dear, top}
use Rattle.lazy_plans.specs.declared.stop.Stop.{Stop}
use Rattle.lazy_plans.specs.declared.stop.Stop.TheVariants.{Memory, CostRange}
use Rattle.lazy_plans.proofs.ListLaw.{any_left, push_cases}
use Rattle.lazy_plans.specs.SelectorsOwe.{AreKeys}
use Rattle.lazy_plans.proofs.Rearranged.{orders_all, count_falls, same_cost}
use Rattle.lazy_plans.proofs.Keyed.{same_flip, same_chain, listed_same, listed_cheap, listed_order}
use Rattle.lazy_plans.proofs.Draws.{still}
use Rattle.selectors.specs.Members.{HasPendingMember, GaveMember, ArePlans, HasEachClass}
use Rattle.selectors.specs.Left.{Left, CoversClasses}

pub off : {A : Type 0} (b : Bool) → Decides b A → ¬ A → b ≡ false
off true d n = absurd (n (d.0 refl))
off false d n = refl

pub apart : {A : Type 0} (b : Bool) → Decides b A → b ≡ false → ¬ A
apart true d e a = cc
apart false d e a = let f = d.1 a in cc

not_less : (a b : ℕ) → a ≤ b → b < a → ⊥
not_less a b h k = omega arith

-- a member of the class of a member is one of the class
chained : (pends : List ℕ → Type 0) (q r : List ℕ) → Same Unordered q r → HasPendingMember pends r → HasPendingMember pends q
chained pends q r alike h = record { member = h.member; alike = same_chain Unordered q r h.member alike h.alike; pending = h.pending }

pub covers_first : (y : System) (below : List ℕ → Type 0) → HasEachClass y below → CoversClasses y [] below
covers_first y below each q h = each q h.1

module _ (y : System) (most : Option ℕ) (keys : List (List ℕ)) (before after : List ℕ → Type 0) (covers : CoversClasses y keys before) where
  -- A plan that the engine below gave.
  module _ (p : List ℕ) (gave : GaveMember y most before after p) where
    -- its class is no longer left
    pub class_taken : (key : List ℕ) → Same Unordered p key → ¬ IsListed Unordered keys p → IsSystemPlan y p
        → (later : List (List ℕ)) → later ≡ keys ++ key ∷ [] → Gave y Unordered most (Left y keys) (Left y later) p
    class_taken key is fresh plan later more = rw more (record {
      pended = (fresh, plan);
      fits = gave.fits;
      least = λ q h. let m = covers q h in omega (arith, gave.least m.member m.pending, same_cost y Unordered q m.member m.alike);
      rest = λ q. (
        (λ h. (
          ((λ m. h.0 (any_left (Same Unordered q) keys key m)), h.1),
          off (same Unordered q p) (same_law Unordered q p) (λ s. h.0 (Any-push (Same Unordered q) keys key (same_chain Unordered q p key s is))),
        )),
        (λ h.
            let n : ¬ Same Unordered q p = apart (same Unordered q p) (same_law Unordered q p) h.1 in (
              (λ m. elim (push_cases (Same Unordered q) keys key m) [
                | inl a ↦ h.0.0 a
                | inr s ↦ n (same_chain Unordered q key p s (same_flip Unordered p key is))
              ]),
              h.0.1,
            )),
      );
    })

    -- each other class keeps a member
    kept : (q : List ℕ) → Left y keys q → ¬ Same Unordered q p → HasPendingMember after q
    kept q h n =
        let m = covers q h in
        chained after q m.member m.alike (gave.members m.member m.pending (λ s. n (same_chain Unordered q m.member p m.alike s)))

    pub covers_taken : (key : List ℕ) → Same Unordered p key → (later : List (List ℕ)) → later ≡ keys ++ key ∷ [] → CoversClasses y later after
    covers_taken key is later more = rw more (λ q h. kept q ((λ m. h.0 (any_left (Same Unordered q) keys key m)), h.1)
        (λ s. h.0 (Any-push (Same Unordered q) keys key (same_chain Unordered q p key s is))))

    pub covers_skipped : IsListed Unordered keys p → CoversClasses y keys after
    covers_skipped listed q h = kept q h (λ s. h.0 (listed_same Unordered keys p q s listed))

    -- skipping it leaves fewer rearrangements of the keys
    pub sifting_falls : (tells later : List ℕ → Bool) → ((q : List ℕ) → Decides (tells q) (before q))
        → ((q : List ℕ) → Decides (later q) (after q)) → IsListed Unordered keys p
        → still later keys < still tells keys
    sifting_falls tells later told told_later listed =
        count_falls tells later (orders_all keys) p
        (λ q e. (told q).1 (gave.fewer q ((told_later q).0 e)).0)
        (listed_order Unordered keys p listed)
        ((told p).1 gave.pended)
        (off (later p) (told_later p) (λ a. (gave.fewer p a).1 refl))

  -- The answers that end it.

  dear_left : (c : ℕ) → Dear y c before → Dear y c (Left y keys)
  dear_left c dear q h = let m = covers q h in omega (arith, dear m.member m.pending, same_cost y Unordered q m.member m.alike)

  none_left : (o : Option ℕ) → NoneLeft y o before → NoneLeft y o (Left y keys)
  none_left None n = λ q h. n (covers q h).member (covers q h).pending
  none_left (Some c) n = dear_left c n

  -- a plan that is too dear is left
  stops_left : (o : Option ℕ) (stop : Stop) → ArePlans y before → AreKeys y Unordered o keys → MayStop y o before stop → MayStop y o (Left y keys) stop
  stops_left None Memory plans ok h = tt
  stops_left (Some c) Memory plans ok h = tt
  stops_left None CostRange plans ok h = (
    (
      h.0.0,
      (
        (λ m. not_less (cost_in_system y h.0.0) (top None)
            (listed_cheap y Unordered (top None) keys h.0.0 ok.cheap m) (h.1 h.0.0 h.0.1)),
        plans h.0.0 h.0.1,
      ),
    ),
    dear_left (top None) h.1,
  )
  stops_left (Some c) CostRange plans ok h = absurd h

  left_stays : (later : List (List ℕ)) → later ≡ keys → PendsAlike (Left y keys) (Left y later)
  left_stays later kept = rw kept (λ q. ((λ h. h), (λ h. h)))

  pub law_none : (later : List (List ℕ)) → later ≡ keys → NoneLeft y most before → NoneLeft y most (Left y keys) × PendsAlike (Left y keys) (Left y later)
  law_none later kept n = (none_left most n, left_stays later kept)

  pub law_stop : (stop : Stop) (later : List (List ℕ)) → ArePlans y before → AreKeys y Unordered most keys
      → later ≡ keys → MayStop y most before stop → MayStop y most (Left y keys) stop
      × PendsAlike (Left y keys) (Left y later)
  law_stop stop later plans ok kept h = (stops_left most stop plans ok h, left_stays later kept)

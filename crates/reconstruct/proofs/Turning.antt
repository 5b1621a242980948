-- One turn.
use Rattle.std.proofs.Common.{append-nil, ◌≡◌, ℕ, zero, suc, ◌+◌, ◌<◌, inl, inr, Bool, true, false, IsTrue, IsFalse, List, [], ◌∷◌, ◌++◌, length, length-append, get_or, remove, Option, Some, None, Result, Ok, Err, IfOk, OnErr, MatchOption, refl, sym, ◌∙◌, ap, subst, arith}
use Rattle.std.specs.List.{AllByRecursion}
use Rattle.task_system.specs.System.{State}
use Rattle.space_api.specs.View.{View, Valid}
use Rattle.space_api.specs.Frames.{Stays}
use Rattle.space_api.specs.Owned.{Trades}
use Rattle.space_api.proofs.Trading.{trades_stays}
use Rattle.cost_layers.specs.declared.layers.Layers.{Layers}
use Rattle.plan_cuts.specs.Entries.{PlainEntry, StandsOnLayers}
use Rattle.reconstruct.specs.Entries.{operators_in, as_plain_entry, plains_of, plains, IsSingle, EntryOk, HasSet, SetIn, AreDistinct, MakesEntries, member_in}
use Rattle.reconstruct.specs.Turned.{GoesOrGives, given_plan, MakesFollowers, IsQueue, TurnsEntries, IsLast, TakesEntry, GivesBack, Replaces}
use Rattle.reconstruct.specs.declared.entries.Entry.{Entry}
use Rattle.reconstruct.proofs.Kept.{plains_append, plains_last, plains_same}
use Rattle.reconstruct.proofs.Sets.{all_kept, in_valid, in_append, put_trades, put_distinct, put_ok, distinct_split}

plain_split : (P : PlainEntry → Type 0) (xs : List PlainEntry) (x : PlainEntry) → AllByRecursion P (xs ++ x ∷ []) → P x
plain_split P [] x a = a.0
plain_split P (y ∷ xs) x a = plain_split P xs x a.1

pub queue_stays : {Set : Type 0} (u w : View Set) (es : List (Entry Set)) → Stays u w → IsQueue u es → IsQueue w es
queue_stays u w es s q = record { each = all_kept u w es s.kept q.each; distinct = q.distinct }

pub trades_none : {Set : Type 0} (u w : View Set) (es : List (Entry Set)) → Stays u w → IsQueue u es → Trades u w (SetIn es) (SetIn es)
trades_none u w es s q = trades_stays u w (SetIn es) s (λ a h. in_valid u es a q.each h)

-- the last entry
pub last_split : {Set : Type 0} (es : List (Entry Set)) → 0 < length es → (others : List (Entry Set)) × (e : Entry Set) × (es ≡ others ++ e ∷ [])
last_split [] h = absurd (omega (arith, h))
last_split (x ∷ []) h = ([], x, refl)
last_split (x ∷ z ∷ es) h = let r = last_split (z ∷ es) (omega arith) in (x ∷ r.0, r.1, ap (λ q. x ∷ q) r.2)

pub last_at : {Set : Type 0} (others : List (Entry Set)) (e d : Entry Set) (i : ℕ) → i + 1 ≡ length (others ++ e ∷ []) → get_or (others ++ e ∷ []) i d ≡ e
last_at [] e d zero h = refl
last_at [] e d (suc i) h = absurd (omega (arith, h))
last_at (x ∷ others) e d zero h = absurd (omega (arith, h, length-append others (e ∷ [])))
last_at (x ∷ others) e d (suc i) h = last_at others e d i (omega (arith, h))

pub middle_at : {Set : Type 0} (others : List (Entry Set)) (e d : Entry Set) (es : List (Entry Set)) (i : ℕ)
    → i + 1 ≡ length (others ++ e ∷ []) → get_or ((others ++ e ∷ []) ++ es) i d ≡ e
middle_at [] e d es zero h = refl
middle_at [] e d es (suc i) h = absurd (omega (arith, h))
middle_at (x ∷ others) e d es zero h = absurd (omega (arith, h, length-append others (e ∷ [])))
middle_at (x ∷ others) e d es (suc i) h = middle_at others e d es i (omega (arith, h))

pub middle_out : {Set : Type 0} (others : List (Entry Set)) (e : Entry Set) (es : List (Entry Set)) (i : ℕ)
    → i + 1 ≡ length (others ++ e ∷ []) → remove ((others ++ e ∷ []) ++ es) i ≡ others ++ es
middle_out [] e es zero h = refl
middle_out [] e es (suc i) h = absurd (omega (arith, h))
middle_out (x ∷ others) e es zero h = absurd (omega (arith, h, length-append others (e ∷ [])))
middle_out (x ∷ others) e es (suc i) h = ap (λ q. x ∷ q) (middle_out others e es i (omega (arith, h)))

-- the entry at the last place
pub last_is : {Set : Type 0} (old : List (Entry Set)) (entry : Entry Set) (i : ℕ) → 0 < length old
    → i + 1 ≡ length old → entry ≡ get_or old i entry → IsLast old entry
last_is old entry i some at is =
    let s = last_split old some in
    let same : entry ≡ s.1 = is ∙ ap (λ (xs : List _). get_or xs i entry) s.2 ∙ last_at s.0 s.1 entry i (at ∙ ap length s.2) in
    (s.0, s.2 ∙ ap (λ (x : Entry _). s.0 ++ x ∷ []) (sym same))

-- the entry is taken out of the middle
pub takes_last : {Set : Type 0} (old es now : List (Entry Set)) (entry : Entry Set) (i : ℕ) → 0 < length old
    → i + 1 ≡ length old → entry ≡ get_or (old ++ es) i entry → now ≡ remove (old ++ es) i → TakesEntry old now es entry
takes_last old es now entry i some at is out =
    let s = last_split old some in
    let here : i + 1 ≡ length (s.0 ++ s.1 ∷ []) = at ∙ ap length s.2 in
    let same : entry ≡ s.1 = is ∙ ap (λ (xs : List _). get_or (xs ++ es) i entry) s.2 ∙ middle_at s.0 s.1 entry es i here in
    (s.0, s.2 ∙ ap (λ (x : Entry _). s.0 ++ x ∷ []) (sym same), out ∙ ap (λ (xs : List _). remove (xs ++ es) i) s.2 ∙ middle_out s.0 s.1 es i here)

-- a list has one last entry
pub same_last : {Set : Type 0} (old others : List (Entry Set)) (x e : Entry Set) → IsLast old x → old ≡ others ++ e ∷ [] → x ≡ e
same_last old others x e l is =
    let lt : length l.0 + 1 ≡ length (l.0 ++ x ∷ []) = omega (arith, length-append l.0 (x ∷ [])) in
    sym (last_at l.0 x x (length l.0) lt) ∙ ap (λ (xs : List _). get_or xs (length l.0) x) (sym l.1 ∙ is)
    ∙ last_at others e x (length l.0) (lt ∙ ap length (sym l.1 ∙ is))

module _ {Set : Type 0} (u v w : View Set) (old new es : List (Entry Set)) (done : Bool) (o : Option (List ℕ))
    (q : IsQueue u old) (m : MakesEntries u v es) (r : Replaces v w old new es done o) where
  abbrev others : List (Entry Set)
  others = r.0

  abbrev e : Entry Set
  e = r.1

  each : AllByRecursion (EntryOk u) (others ++ e ∷ [])
  each = subst (λ (xs : List (Entry Set)). AllByRecursion (EntryOk u) xs) r.2 q.each

  distinct : AreDistinct (others ++ e ∷ [])
  distinct = subst (λ (xs : List (Entry Set)). AreDistinct xs) r.2 q.distinct

  pub replaced_queue : IsQueue w new
  replaced_queue = subst (λ (xs : List (Entry Set)). IsQueue w xs) (sym r.3)
      (record {
        each = put_ok u v w others es e each distinct m r.4;
        distinct =
            put_distinct u v w others es e each distinct m r.4;
      })

  pub replaced_trades : Trades u w (SetIn old) (SetIn new)
  replaced_trades = subst (λ (xs : List (Entry Set)). Trades u w (SetIn xs) (SetIn new)) (sym r.2)
      (subst (λ (xs : List (Entry Set)). Trades u w (SetIn (others ++ e ∷ [])) (SetIn xs)) (sym r.3)
      (put_trades u v w others es e each distinct m r.4))

  clash : (x : Bool) → x ≡ true → x ≡ false → ⊥
  clash x a b = cc

  -- by whatever layers
  module _ (fr : ℕ → State → Bool) where
    others_same : plains w fr others ≡ plains u fr others
    others_same = plains_same u w (r.4.system ∙ m.kept.system) fr others (λ a h s.
        let ok : Valid u a = in_valid u (others ++ e ∷ []) a each ((in_append others (e ∷ []) a).1 (inl h)) in
        let other : ¬ HasSet e a = λ has. (distinct_split others (e ∷ []) distinct).2 a h (inl has) in
        r.4.same a (m.kept.valid a ok) other s ∙ m.kept.same a ok s)

    made_same : plains w fr es ≡ plains v fr es
    made_same = plains_same v w r.4.system fr es (λ a h s.
        let ok : Valid v a = in_valid v es a m.each h in
        let other : ¬ HasSet e a = λ has. clash (u.valid a) (in_valid u (others ++ e ∷ []) a each
        ((in_append others (e ∷ []) a).1 (inr (inl has)))) (m.fresh a h) in
        r.4.same a ok other s)

    pub now_stands : plains w fr new ≡ plains u fr others ++ plains v fr es
    now_stands = ap (plains w fr) r.3 ∙ plains_append w fr others es
        ∙ ap (λ (z : List PlainEntry). z ++ plains w fr es) others_same
        ∙ ap (λ (z : List PlainEntry). plains u fr others ++ z) made_same

    -- what took the entry's place stands for the same
    pub stands_same : plains v fr es ≡ plains_of u fr e → plains w fr new ≡ plains u fr old
    stands_same same = now_stands ∙ ap (λ (z : List PlainEntry). plains u fr others ++ z) (same ∙ sym (append-nil (plains_of u fr e)))
        ∙ sym (plains_append u fr others (e ∷ [])) ∙ sym (ap (plains u fr) r.2)

  -- the turn, where what follows was made of the last entry
  pub replaced_turns : (front back : Layers Set) (x : Entry Set) → IsSingle x → x ≡ e → MakesFollowers u v front back x es done → TurnsEntries u w front back old new o
  replaced_turns front back x made same follows f b listed sides stands =
      let fr = member_in u front in
      let bk = member_in u back in
      let was : plains u fr old ≡ plains u fr others ++ as_plain_entry u e ∷ [] = ap (plains u fr) r.2 ∙ plains_last u fr others e
      (subst (λ (z : Entry Set). IsSingle z) same made) in
      let one = plain_split (StandsOnLayers u.system f b listed) (plains u fr others) (as_plain_entry u e)
      (subst (λ (z : List PlainEntry). AllByRecursion (StandsOnLayers u.system f b listed) z) was stands) in
      let fol = subst (λ (z : Entry Set). MakesFollowers u v front back z es done) same follows in
      let y = u.system in
      let h0 = fol.1 f b listed (plains u fr others) (record { sides = sides; stands = one }) in
      let h1 = subst (λ (z : Option (List ℕ)). GoesOrGives y fr bk (plains u fr others ++ as_plain_entry u e ∷ [])
      (plains u fr others ++ plains v fr es) z) (sym r.5) h0 in
      let h2 = subst (λ (z : List PlainEntry). GoesOrGives y fr bk z (plains u fr others ++ plains v fr es) o) (sym was) h1 in
      subst (λ (z : List PlainEntry). GoesOrGives y fr bk (plains u fr old) z o) (sym (now_stands fr)) h2

-- by what the call answers
module _ {Set : Type 0} {X : Type 0} {E : Type 0} (items : X → List ℕ) (u v w : View Set)
    (old new es : List (Entry Set)) (done : Bool) (q : IsQueue u old) (m : MakesEntries u v es) where
  abbrev Told : Result (Option X) E → Type 0
  Told r = IfOk r (λ o. MatchOption o (Replaces v w old new es done None) (λ p. Replaces v w old new es done (Some (items p))))

  pub turn_owns : (r : Result (Option X) E) → Told r → OnErr r ((x : View Set) → MakesEntries x v es → Stays x w)
      → OnErr r (new ≡ old) → IsQueue w new × Trades u w (SetIn old) (SetIn new)
  turn_owns (Ok None) h back same = (replaced_queue u v w old new es done None q m h, replaced_trades u v w old new es done None q m h)
  turn_owns (Ok (Some p)) h back same = (
    replaced_queue u v w old new es done (Some (items p)) q m h,
    replaced_trades
        u v w old new es done (Some (items p)) q m h,
  )
  turn_owns (Err x) h back same = rw same (queue_stays u w old (back u m) q, trades_none u w old (back u m) q)

  pub turn_tells : (front back : Layers Set) (x : Entry Set) (r : Result (Option X) E) → IsSingle x → IsLast old x
      → MakesFollowers u v front back x es done → Told r → IfOk r
      (λ o. MatchOption o (TurnsEntries u w front back old new None) (λ p. TurnsEntries u w front back old new (Some (items p))))
  turn_tells front back x (Ok None) made last fol h = replaced_turns u v w old new es done None q m h front back x made (same_last old h.0 x h.1 last h.2) fol
  turn_tells front back x (Ok (Some p)) made last fol h = replaced_turns u v w old new es done (Some (items p)) q m h front
      back x made (same_last old h.0 x h.1 last h.2) fol
  turn_tells front back x (Err y) made last fol h = tt

  pub turn_stays : (r : Result (Option X) E) → OnErr r ((x : View Set) → MakesEntries x v es → Stays x w) → OnErr r (Stays u w)
  turn_stays (Ok o) back = tt
  turn_stays (Err x) back = back u m

-- the set of the entry that is taken is valid
pub taken_valid : {Set : Type 0} (u v : View Set) (old now es : List (Entry Set)) (entry : Entry Set)
    → TakesEntry old now es entry → IsQueue u old → MakesEntries u v es → (a : Set) → HasSet entry a → Valid v a
taken_valid u v old now es entry t q m a has =
    let last : SetIn (t.0 ++ entry ∷ []) a = (in_append t.0 (entry ∷ []) a).1 (inr (inl has)) in
    m.kept.valid a (in_valid u old a q.each (subst (λ (xs : List _). SetIn xs a) (sym t.1) last))

-- the entry is taken, and its set given_plan back
pub taken_out : {Set : Type 0} (v w : View Set) (old now es : List (Entry Set)) (entry : Entry Set) (done : Bool)
    → TakesEntry old now es entry → GivesBack v w entry → Replaces v w old now es done (given_plan done entry)
taken_out v w old now es entry done t f = (t.0, entry, t.1, t.2, f, refl)

-- a plan is handed out where the entry is done
pub told : {Set : Type 0} {X : Type 0} (items : X → List ℕ) {v w : View Set} (old now es : List (Entry Set))
    (done : Bool) (entry : Entry Set) {ops : List ℕ} (r : Option X) → ops ≡ operators_in entry
    → MatchOption r (IsFalse done) (λ p. IsTrue done × (items p ≡ ops))
    → Replaces v w old now es done (given_plan done entry) → MatchOption r (Replaces v w old now es done None)
    (λ p. Replaces v w old now es done (Some (items p)))
told items {v = v} {w = w} old now es done entry None same h r =
    subst (λ (z : Option (List ℕ)). Replaces v w old now es done z) (ap (λ (b : Bool). given_plan b entry) h) r
told items {v = v} {w = w} old now es done entry (Some p) same h r =
    subst (λ (z : Option (List ℕ)). Replaces v w old now es done z)
    (ap (λ (b : Bool). given_plan b entry) h.0 ∙ ap (λ (z : List ℕ). Some z) (sym (h.1 ∙ same))) r

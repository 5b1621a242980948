-- What a turn does to what is owed.
use Rattle.std.proofs.Common.{◌≡◌, ℕ, ◌+◌, ◌<◌, ◌≤◌, Bool, false, ◌↔◌, inl, inr, List, [], ◌∷◌, ◌++◌, Option, refl, ◌∙◌, ap, subst, arith, length}
use Rattle.std.specs.List.{AllByRecursion}
use Rattle.task_system.specs.System.{State, System, IsSystemPlan, cost_in_system}
use Rattle.task_system.specs.System.{are_equal}
use Rattle.lazy_plans.specs.Law.{Gave, top}
use Rattle.symk_task.specs.declared.parts.Mode.TheVariants.{TopK}
use Rattle.plan_cuts.specs.Counts.{one_if}
use Rattle.plan_cuts.specs.Entries.{PlainEntry, Head, Tail, Tables, total, StandsOnLayers, FollowsEntry, Done, height, entry_weight, Goes, GivesPlan, places, Owed, Lawful}
use Rattle.plan_cuts.specs.declared.Cut.{Cut}
use Rattle.plan_cuts.proofs.Paths.{either, equal_is, equal_self}
use Rattle.plan_cuts.proofs.Splitting.{open_splits, done_splits, follows_stand}

pub total_append : (y : System) (es fs : List PlainEntry) (p : List ℕ) → total y (es ++ fs) p ≡ total y es p + total y fs p
total_append y [] fs p = omega arith
total_append y (e ∷ es) fs p = omega (arith, total_append y es fs p)

all_front : {X : Type 0} (P : X → Type 0) (xs : List X) (x : X) → AllByRecursion P (xs ++ x ∷ []) → AllByRecursion P xs × P x
all_front P [] x a = (tt, a.0)
all_front P (y ∷ xs) x a = let r = all_front P xs x a.1 in ((a.0, r.0), r.1)

all_append : {X : Type 0} (P : X → Type 0) (xs ys : List X) → AllByRecursion P xs → AllByRecursion P ys → AllByRecursion P (xs ++ ys)
all_append P [] ys a b = b
all_append P (x ∷ xs) ys a b = (a.0, all_append P xs ys a.1 b)

-- a number read off the entry that is taken next
abbrev pub last_by : (PlainEntry → ℕ) → List PlainEntry → ℕ
last_by m [] = 0
last_by m (e ∷ []) = m e
last_by m (e ∷ x ∷ es) = last_by m (x ∷ es)

pub last_of : (m : PlainEntry → ℕ) (es : List PlainEntry) (e : PlainEntry) → last_by m (es ++ e ∷ []) ≡ m e
last_of m [] e = refl
last_of m (x ∷ []) e = refl
last_of m (x ∷ z ∷ es) e = last_of m (z ∷ es) e

append_last : (xs ys : List PlainEntry) (e : PlainEntry) → xs ++ (ys ++ e ∷ []) ≡ (xs ++ ys) ++ e ∷ []
append_last [] ys e = refl
append_last (x ∷ xs) ys e = ap (λ (zs : List PlainEntry). x ∷ zs) (append_last xs ys e)

pub last_deep : (m : PlainEntry → ℕ) (xs ys : List PlainEntry) (e : PlainEntry) → last_by m (xs ++ (ys ++ e ∷ [])) ≡ m e
last_deep m xs ys e = ap (last_by m) (append_last xs ys e) ∙ last_of m (xs ++ ys) e

module _ (y : System) (front back : ℕ → State → Bool) (f b listed : ℕ) (undrawn : Cut → Bool) where
  each_stands : (e : PlainEntry) (es : List PlainEntry) → Tables y front back f b → StandsOnLayers y f b listed e
      → AllByRecursion (FollowsEntry y front back e) es → AllByRecursion (StandsOnLayers y f b listed) es
  each_stands e [] tab st a = tt
  each_stands e (c ∷ es) tab st a = (follows_stand y front back f b listed tab e c st a.0, each_stands e es tab st a.1)

  module _ (old new : List PlainEntry) (ok : Lawful y front back f b listed old undrawn) where
    -- a turn that puts what follows in the place of an entry
    module _ (g : Goes y front back old new) where
      at : AllByRecursion (StandsOnLayers y f b listed) g.others × StandsOnLayers y f b listed g.taken
      at = all_front (StandsOnLayers y f b listed) g.others g.taken
          (subst (λ (q : List PlainEntry). AllByRecursion (StandsOnLayers y f b listed) q) g.was ok.stands)

      pub goes_total : (p : List ℕ) → IsSystemPlan y p → total y new p ≡ total y old p
      goes_total p plan =
          let e = g.taken in
          let es = g.pushed ++ g.last ∷ [] in
          let was : total y old p ≡ total y g.others p + total y (e ∷ []) p = ap
          (λ (q : List PlainEntry). total y q p) g.was ∙ total_append y g.others (e ∷ []) p in
          let is : total y new p ≡ total y g.others p + total y es p = ap (λ (q : List PlainEntry). total y q p) g.is ∙ total_append y g.others es p in
          omega (arith, was, is, g.counts p, open_splits y front back f b listed ok.tables e p at.1 g.unfinished plan)

      pub goes_lawful : Lawful y front back f b listed new undrawn
      goes_lawful = record {
        tables = ok.tables;
        stands = rw g.is (all_append (StandsOnLayers y f b listed) g.others (g.pushed ++ g.last ∷ []) at.0
            (each_stands g.taken (g.pushed ++ g.last ∷ []) ok.tables at.1 g.each));
        once = λ p plan c. omega (arith, goes_total p plan, ok.once p plan c);
      }

      pub goes_owed : (p : List ℕ) → Owed y b listed new undrawn p ↔ Owed y b listed old undrawn p
      goes_owed p = (
        (λ h. (h.0, elim h.1 [ inl a ↦ inl a | inr k ↦ inr (k.0, omega (arith, goes_total p h.0, k.1)) ])),
        (λ h. (h.0, elim h.1 [ inl a ↦ inl a | inr k ↦ inr (k.0, omega (arith, goes_total p h.0, k.1)) ])),
      )

      -- the walk ends, and puts a step in place
      pub goes_on : (last_by height new < last_by height old) × (last_by entry_weight new ≡ last_by entry_weight old + 1)
      goes_on =
          let n = λ (m : PlainEntry → ℕ). ap (last_by m) g.is ∙ last_deep m g.others g.pushed g.last in
          let o = λ (m : PlainEntry → ℕ). ap (last_by m) g.was ∙ last_of m g.others g.taken in
          (omega (arith, n height, o height, g.falls), omega (arith, n entry_weight, o entry_weight, g.longer))

    -- a turn that takes a plan
    module _ (p : List ℕ) (g : GivesPlan y front back old new p) where
      left : AllByRecursion (StandsOnLayers y f b listed) g.others × StandsOnLayers y f b listed g.taken
      left = all_front (StandsOnLayers y f b listed) g.others g.taken
          (subst (λ (q : List PlainEntry). AllByRecursion (StandsOnLayers y f b listed) q) g.was ok.stands)

      pub gives_total : (q : List ℕ) → IsSystemPlan y q → total y old q ≡ total y new q + one_if (are_equal q p)
      gives_total q plan =
          let e = g.taken in
          let was : total y old q ≡ total y g.others q + total y (e ∷ []) q = ap
          (λ (x : List PlainEntry). total y x q) g.was ∙ total_append y g.others (e ∷ []) q in
          let is : total y new q ≡ total y g.others q + total y g.pushed q = ap
          (λ (x : List PlainEntry). total y x q) g.is ∙ total_append y g.others g.pushed q in
          omega (arith, was, is, g.counts q, done_splits y front back f b listed ok.tables e p q left.1 g.done plan)

      done_plan : (e : PlainEntry) → Done y e p → StandsOnLayers y f b listed e → IsSystemPlan y p
          × (cost_in_system y p ≡ listed) × (entry_weight e ≡ length p + 1)
      done_plan (Head has cost ring ops after) d st = absurd d
      done_plan (Tail cost ring ops) d st = rw d.1 (d.2, omega (arith, st.1, d.0), refl)

      pub whole : IsSystemPlan y p × (cost_in_system y p ≡ listed) × (entry_weight g.taken ≡ length p + 1)
      whole = done_plan g.taken g.done left.1

      -- the plan has one step for each turn but two
      pub gives_weight : last_by entry_weight old ≡ length p + 1
      gives_weight = ap (last_by entry_weight) g.was ∙ last_of entry_weight g.others g.taken ∙ whole.2

      me : one_if (are_equal p p) ≡ 1
      me = ap one_if (equal_self p)

      pub gives_lawful : Lawful y front back f b listed new undrawn
      gives_lawful = record {
        tables = ok.tables;
        stands = rw g.is (all_append (StandsOnLayers y f b listed) g.others g.pushed left.0 (each_stands g.taken g.pushed ok.tables left.1 g.each));
        once = λ q plan c. omega (arith, gives_total q plan, ok.once q plan c);
      }

      other : (q : List ℕ) → IsSystemPlan y q → cost_in_system y q ≡ listed → places y b new undrawn q ≡ 1 → are_equal q p ≡ false
      other q plan c one = elim (either (are_equal q p)) [
        | inl h ↦ absurd (omega (arith, gives_total q plan, ok.once q plan c, ap one_if h, one))
        | inr h ↦ h
      ]

      dear : (q : List ℕ) → listed < cost_in_system y q → are_equal q p ≡ false
      dear q a = elim (either (are_equal q p)) [
        | inl h ↦ absurd (let s : cost_in_system y q ≡ cost_in_system y p = ap (cost_in_system y) (equal_is q p h) in omega (arith, s, whole.1, a))
        | inr h ↦ h
      ]

      pub gives_gave : (most : Option ℕ) → listed ≤ top most → Gave y TopK most (Owed y b listed old undrawn) (Owed y b listed new undrawn) p
      gives_gave most range = record {
        pended = (whole.0, inr (whole.1, omega (arith, ok.once p whole.0 whole.1, gives_total p whole.0, me)));
        fits = omega (arith, whole.1, range);
        least = λ q h. elim h.1 [ inl a ↦ omega (arith, a, whole.1) | inr k ↦ omega (arith, k.0, whole.1) ];
        rest = λ q. (
          (λ h. elim h.1 [
            | inl a ↦ ((h.0, inl a), dear q a)
            | inr k ↦ (let n = other q h.0 k.0 k.1 in ((h.0, inr (k.0, omega (arith, gives_total q h.0, ap one_if n, k.1))), n))
          ]),
          (λ h. (h.0.0, elim h.0.1 [ inl a ↦ inl a | inr k ↦ inr (k.0, omega (arith, gives_total q h.0.0, ap one_if h.1, k.1)) ])),
        );
      }

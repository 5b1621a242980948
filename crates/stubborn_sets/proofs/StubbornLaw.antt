-- A set that has what its members need is stubborn.
use Rattle.std.proofs.Common.{◌≡◌, ℕ, ◌<◌, ◌⊎◌, inl, inr, Bool, true, false, IsTrue, List, [], ◌∷◌, ◌++◌, length, Option, Some, None, IsSomeAnd, IfSome, slice_get, refl, sym, ap, subst, ◌∙◌}
use Rattle.std.specs.List.{AllByRecursion}
use Rattle.std.proofs.lemmas.List.Elements.{All-contains}
use Rattle.symk_task.specs.declared.parts.Fact.{Fact}
use Rattle.symk_task.specs.declared.parts.Operator.{Operator}
use Rattle.symk_task.specs.declared.parts.TaskParts.{TaskParts}
use Rattle.symk_task.specs.Variables.{IsState}
use Rattle.symk_task.specs.Steps.{Holds, Allows}
use Rattle.symk_task.specs.Fits.{Fits, FitsEffect, FitsOperator, InRange}
use Rattle.symk_task.proofs.Running.{fits_operator, step_state}
use Rattle.task_run.specs.Values.{HasValue, Valued, AppliesBy}
use Rattle.task_run.proofs.Applying.{applies_law}
use Rattle.task_system.specs.System.{State, System, RunsInSystem}
use Rattle.task_system.specs.Computed.{system_of}
use Rattle.task_system.proofs.RunsLaw.{leads_law}
use Rattle.task_system.proofs.StepLaw.{leads_on, goal_law}
use Rattle.space_api.proofs.Runs.{run_split}
use Rattle.stubborn_sets.specs.Commuting.{Commute}
use Rattle.stubborn_sets.proofs.Pair.{Allowed}
use Rattle.stubborn_sets.proofs.CommuteLaw.{allowed_by}
use Rattle.stubborn_sets.specs.Stubborn.{IsApplicable, FirstOf, Stubborn}
use Rattle.stubborn_sets.specs.Making.{IsNoMaker, IsUnmet, IsMissingFact}
use Rattle.stubborn_sets.specs.Closing.{has_mark, HasMakers, StaysFalse, HasConflicts, HasNeeds, HaveNeeds}
use Rattle.stubborn_sets.proofs.Remaining.{run_stays}
use Rattle.stubborn_sets.proofs.BarringLaw.{stays_false}

-- The first of a set in a list.

-- no operator of the list is in the set
abbrev NoneIn : (ℕ → Bool) → List ℕ → Type 0
NoneIn set p = AllByRecursion (λ a. ¬ IsTrue (set a)) p

record Split (set : ℕ → Bool) (p : List ℕ) : Type 0 where
  before : List ℕ
  first : ℕ
  later : List ℕ
  here : p ≡ before ++ first ∷ later
  inside : IsTrue (set first)
  none : NoneIn set before

either : (b : Bool) → IsTrue b ⊎ (¬ IsTrue b)
either true = inl refl
either false = inr (λ h. (cc))

split : (set : ℕ → Bool) (p : List ℕ) → NoneIn set p ⊎ Split set p
split set [] = inl tt
split set (a ∷ p) = elim (either (set a)) [
  | inl it_is ↦ inr (record { before = []; first = a; later = p; here = refl; inside = it_is; none = tt })
  | inr off ↦ elim (split set p) [
    | inl none ↦ inl (off, none)
    | inr s ↦ inr (record {
      before = a ∷ s.before;
      first = s.first;
      later = s.later;
      here =
          ap (λ (z : List ℕ). a ∷ z) s.here;
      inside = s.inside;
      none = (off, s.none);
    })
  ]
]

-- the numbers of a run are operators'
numbers : (y : System) (p : List ℕ) (s t : State) → RunsInSystem y s p t → AllByRecursion (λ a. a < y.operators) p
numbers y [] s t h = tt
numbers y (a ∷ p) s t (n, lead, rest) = (lead.number, numbers y p n t rest)

both : (P Q R : ℕ → Type 0) (p : List ℕ) → ((a : ℕ) → P a → Q a → R a) → AllByRecursion P p → AllByRecursion Q p → AllByRecursion R p
both P Q R [] f h k = tt
both P Q R (a ∷ p) f h k = (f a h.0 k.0, both P Q R p f h.1 k.1)

-- a precondition that an operator lacks

missing_holds : (task : TaskParts) (values m : List ℕ) (operator : Operator) (fact : Fact)
    → IsMissingFact values operator fact → Allowed task m operator → Holds task m fact
missing_holds task values m operator fact (inl h) allowed = All-contains (Holds task m) operator.prevail fact allowed.prevail h.0
missing_holds task values m operator fact (inr (e, has, (on, asks, _))) allowed =
    let k = subst (λ (o : Option ℕ). IfSome o (λ val. Holds task m (record { var = e.var; val = val }))) asks
    (All-contains (Allows task m) operator.effects e allowed.effects has) in
    subst (λ (v : ℕ). Holds task m (record { var = v; val = fact.val })) (sym on) k

pub missing_within : (task : TaskParts) (values : List ℕ) (operator : Operator) (fact : Fact)
    → FitsOperator task.variables operator → IsMissingFact values operator fact → InRange task.variables fact
    × ¬ HasValue values fact
missing_within task values operator fact fit (inl h) = (All-contains (InRange task.variables) operator.prevail fact fit.prevail.1 h.0, h.1)
missing_within task values operator fact fit (inr (e, has, (on, asks, unlike))) =
    let k = subst (λ (o : Option ℕ). IfSome o (λ val. InRange task.variables (record { var = e.var; val = val })))
    asks (All-contains (FitsEffect task.variables) operator.effects e fit.each has).pre in
    (subst (λ (v : ℕ). InRange task.variables (record { var = v; val = fact.val })) (sym on) k, unlike)

module _ (task : TaskParts) (s values : List ℕ) (marks : List Bool) (fits : Fits task) (state : IsState task s) (valued : Valued task s values) where
  -- operators of a run that are not marked can't make the fact true
  none_make : (fact : Fact) (p : List ℕ) (t : List ℕ) → HasMakers task fact marks → RunsInSystem (system_of task) s p t
      → NoneIn (has_mark marks) p → AllByRecursion (IsNoMaker task fact) p
  none_make fact p t makers runs none =
      both (λ a. a < length task.operators) (λ a. ¬ IsTrue (has_mark marks a)) (IsNoMaker task fact) p
      (λ a lt off. elim (makers a lt) [ inl it_is ↦ absurd (off it_is) | inr cannot ↦ cannot ])
      (numbers (system_of task) p s t runs) none

  -- so what doesn't hold by the values, and stays false before a marked operator is applied, doesn't hold after them
  false_after : (fact : Fact) (p : List ℕ) (t : List ℕ) → InRange task.variables fact → ¬ HasValue values fact
      → StaysFalse task values marks fact → RunsInSystem (system_of task) s p t → NoneIn (has_mark marks) p
      → Holds task t fact → ⊥
  false_after fact p t within unmet stays runs none holds = elim stays [
    | inl makers ↦ kept fact within unmet makers holds
    | inr barred ↦ stays_false task t values marks fact fits barred kept holds
  ]
    where
      kept : (other : Fact) → InRange task.variables other → ¬ HasValue values other → HasMakers task other marks → Holds task t other → ⊥
      kept other there off makers h = off ((valued.holds other there).0
          (run_stays task p s t other fits there state runs (none_make other p t makers runs none) h))

  first_needs : (a : ℕ) (operator : Operator) (before later : List ℕ) (m t : List ℕ) → slice_get task.operators a ≡ Some operator
      → ((AppliesBy values operator × HasConflicts task a marks) ⊎ ((fact : Fact) × IsMissingFact values operator fact × StaysFalse task values marks fact))
      → NoneIn (has_mark marks) before → RunsInSystem (system_of task) s before m → RunsInSystem (system_of task) m (a ∷ later) t
      → IsApplicable (system_of task) a s × AllByRecursion (Commute (system_of task) a) before
  first_needs a operator before later m t is (inl (applies, conflicts)) none runs rest =
      let fit = fits_operator task a operator fits is in
      let to = leads_on task s a fits state ((applies_law task s values a operator valued is fit).0 applies) in (
        (to.0, (leads_law task s a to.0 fits state).1 to.1),
        both (λ b. b < length task.operators) (λ b. ¬ IsTrue (has_mark marks b)) (Commute (system_of task) a) before
            (λ b lt off. elim (conflicts b lt) [ inl it_is ↦ absurd (off it_is) | inr commute ↦ commute ])
            (numbers (system_of task) before s m runs) none,
      )
  first_needs a operator before later m t is (inr (fact, lacks, stays)) none runs rest =
      let within = missing_within task values operator fact (fits_operator task a operator fits is) lacks in
      let state_m = run_state_of before s m state runs in
      let step = (leads_law task m a rest.0 fits state_m).0 rest.1 in
      let holds = missing_holds task values m operator fact lacks (allowed_by task m a operator is step.0) in
      absurd (false_after fact before m within.0 within.1 stays runs none holds)
    where
      run_state_of : (p : List ℕ) (s m : List ℕ) → IsState task s → RunsInSystem (system_of task) s p m → IsState task m
      run_state_of [] s m on h = subst (IsState task) h on
      run_state_of (b ∷ p) s m on (n, lead, rest) = run_state_of p n m (step_state task s b n fits on ((leads_law task s b n fits on).0 lead)) rest

  at_needs : (a : ℕ) (before later : List ℕ) (m t : List ℕ) → HasNeeds task values a marks
      → NoneIn (has_mark marks) before → RunsInSystem (system_of task) s before m → RunsInSystem (system_of task) m (a ∷ later) t
      → IsApplicable (system_of task) a s × AllByRecursion (Commute (system_of task) a) before
  at_needs a before later m t needs none runs rest = go (slice_get task.operators a) refl needs
    where
      go : (o : Option Operator) → slice_get task.operators a ≡ o
          → IsSomeAnd o (λ operator. (AppliesBy values operator × HasConflicts task a marks)
          ⊎ ((fact : Fact) × IsMissingFact values operator fact × StaysFalse task values marks fact))
          → IsApplicable (system_of task) a s × AllByRecursion (Commute (system_of task) a) before
      go None is h = absurd h
      go (Some operator) is h = first_needs a operator before later m t is h none runs rest

  -- begun with what a goal fact that doesn't hold waits for
  pub stubborn_law : (fact : Fact) → IsUnmet values task.goal fact → StaysFalse task values marks fact
      → HaveNeeds task values marks marks → Stubborn (system_of task) (has_mark marks) s
  stubborn_law fact unmet stays needs = record { first = λ a p t runs goal. by a p t runs goal (split (has_mark marks) (a ∷ p)) }
    where
      within : InRange task.variables fact
      within = All-contains (InRange task.variables) task.goal fact fits.goal.1 unmet.0

      by : (a : ℕ) (p : List ℕ) (t : List ℕ) → RunsInSystem (system_of task) s (a ∷ p) t → IsTrue ((system_of task).goal t)
          → NoneIn (has_mark marks) (a ∷ p) ⊎ Split (has_mark marks) (a ∷ p)
          → FirstOf (system_of task) (has_mark marks) s (a ∷ p)
      by a p t runs goal (inl none) =
          let holds = All-contains (Holds task t) task.goal fact ((goal_law task t fits).0 goal) unmet.0 in
          absurd (false_after fact (a ∷ p) t within unmet.1 stays runs none holds)
      by a p t runs goal (inr f) =
          let parts = run_split (system_of task) s f.before (f.first ∷ f.later) t (subst (λ (z : List ℕ). RunsInSystem (system_of task) s z t) f.here runs) in
          let two = at_needs f.first f.before f.later parts.0 t (needs f.first f.inside) f.none parts.1 parts.2 in
          record { before = f.before; first = f.first; later = f.later; here = f.here; inside = f.inside; none = f.none; applies = two.0; commutes = two.1 }

-- all operators
pub all_stubborn : (task : TaskParts) (s : List ℕ) (set : ℕ → Bool) → ((a : ℕ) → a < length task.operators → IsTrue (set a)) → Stubborn (system_of task) set s
all_stubborn task s set all = record {
  first = λ a p t runs goal. record {
    before = [];
    first = a;
    later = p;
    here = refl;
    inside = all a runs.1.number;
    none = tt;
    applies = (runs.0, runs.1);
    commutes = tt;
  };
}

-- by the slices that the code looked at
pub unmet_goal : (task parts : TaskParts) (values read : List ℕ) (facts : List Fact) (fact : Fact) → parts ≡ task
    → facts ≡ parts.goal → read ≡ values → IsUnmet read facts fact → IsUnmet values task.goal fact
unmet_goal task parts values read facts fact same list is h =
    subst (λ (z : List ℕ). IsUnmet z task.goal fact) is (subst (λ (z : List Fact). IsUnmet read z fact) (list ∙ ap (λ (z : TaskParts). z.goal) same) h)

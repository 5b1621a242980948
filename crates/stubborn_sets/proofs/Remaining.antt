-- What no operator of a run can make true stays false.
use Rattle.std.proofs.Common.{◌≡◌, ℕ, inl, inr, Bool, IsTrue, List, [], ◌∷◌, get_or, Option, Some, None, IsSomeAnd, slice_get, refl, sym, subst, ◌∙◌}
use Rattle.std.specs.List.{AllByRecursion}
use Rattle.std.proofs.lemmas.List.Elements.{recursion_from_All}
use Rattle.symk_task.specs.declared.parts.Fact.{Fact}
use Rattle.symk_task.specs.declared.parts.Effect.{Effect}
use Rattle.symk_task.specs.declared.parts.Operator.{Operator}
use Rattle.symk_task.specs.declared.parts.TaskParts.{TaskParts}
use Rattle.symk_task.specs.Variables.{IsState, place}
use Rattle.symk_task.specs.Steps.{Holds, Fires, Step, ValueAfter}
use Rattle.symk_task.specs.Fits.{Fits, InRange}
use Rattle.symk_task.proofs.Layers.{base_derived, which}
use Rattle.symk_task.proofs.Running.{step_state}
use Rattle.task_system.specs.System.{RunsInSystem}
use Rattle.task_system.specs.Computed.{system_of}
use Rattle.task_system.proofs.RunsLaw.{leads_law}
use Rattle.stubborn_sets.proofs.Values.{at_written, unwritten, at_last}
use Rattle.stubborn_sets.proofs.Pair.{Leaves, base_value}
use Rattle.stubborn_sets.proofs.CommuteLaw.{leaves_by}
use Rattle.stubborn_sets.specs.Depending.{has_mark, WritesOff}
use Rattle.stubborn_sets.specs.Making.{GivesOther, CannotMake, IsNoMaker}
use Rattle.stubborn_sets.proofs.DependingLaw.{AgreeOn, holds_on}

-- a base variable's value that no effect gives comes from before
given : (task : TaskParts) (s : List ℕ) (effects : List Effect) (fact : Fact) (now : ℕ)
    → AllByRecursion (GivesOther fact) effects → ValueAfter (Fires task s) effects fact.var
    (get_or s (place task fact.var) 0) now → now ≡ fact.val
    → get_or s (place task fact.var) 0 ≡ fact.val
given task s effects fact now none (inl (last, l, e)) is = absurd
    (at_last (GivesOther fact) l.before l.later last (subst (AllByRecursion (GivesOther fact)) l.here none) l.on
    (sym e ∙ is))
given task s effects fact now none (inr h) is = sym h.1 ∙ is

-- one step
stays : (task : TaskParts) (s t : List ℕ) (operator : Operator) (fact : Fact) → InRange task.variables fact
    → Leaves task s operator t → CannotMake task fact operator → Holds task t fact → Holds task s fact
stays task s t operator fact within leaves cannot h = elim (which task fact within) [
  | inl on ↦ elim cannot.0 [
    | inl off ↦ absurd (off on)
    | inr none ↦ inl (
      on,
      given task s operator.effects fact (get_or t (place task fact.var) 0)
          (recursion_from_All (GivesOther fact) operator.effects none) (leaves fact.var on)
          (base_value task t fact on h),
    )
  ]
  | inr (layer, has) ↦ elim cannot.1 [
    | inl on ↦ absurd (base_derived task fact.var layer on has)
    | inr (marks, on, shut, off) ↦ holds_on task marks shut t s fact (agree marks off) on h
  ]
]
  where
    agree : (marks : List Bool) → WritesOff marks operator.effects → AgreeOn task marks t s
    agree marks off var on in_them = elim (at_written (λ (v : ℕ). ¬ IsTrue (has_mark marks v)) operator.effects var
        (recursion_from_All (λ (e : Effect). ¬ IsTrue (has_mark marks e.var)) operator.effects off)) [
          | inl none ↦ unwritten (Fires task s) operator.effects var (get_or s (place task var) 0) (get_or t (place task var) 0) none (leaves var on)
          | inr un ↦ absurd (un in_them)
        ]

one_step : (task : TaskParts) (s t : List ℕ) (a : ℕ) (fact : Fact) → Fits task → InRange task.variables fact
    → Step task s a t → IsNoMaker task fact a → Holds task t fact → Holds task s fact
one_step task s t a fact fits within step cannot h = go (slice_get task.operators a) refl cannot
  where
    go : (o : Option Operator) → slice_get task.operators a ≡ o → IsSomeAnd o (CannotMake task fact) → Holds task s fact
    go None is k = absurd k
    go (Some operator) is k = stays task s t operator fact within (leaves_by task s a operator t is step.1) k h

-- a run
pub run_stays : (task : TaskParts) (p : List ℕ) (s t : List ℕ) (fact : Fact) → Fits task → InRange task.variables fact
    → IsState task s → RunsInSystem (system_of task) s p t → AllByRecursion (IsNoMaker task fact) p
    → Holds task t fact → Holds task s fact
run_stays task [] s t fact fits within state runs cannot h = subst (λ (z : List ℕ). Holds task z fact) (sym runs) h
run_stays task (a ∷ p) s t fact fits within state (m, lead, rest) cannot h =
    let step = (leads_law task s a m fits state).0 lead in
    one_step task s m a fact fits within step cannot.0 (run_stays task p m t fact fits within (step_state task s a m fits state step) rest cannot.1 h)

-- An operator applies where its preconditions have their values.
use Rattle.std.proofs.Common.{◌≡◌, ℕ, ◌↔◌, Bool, IsTrue, List, length, get_or, Option, Some, None, IsSomeAnd, IfSome, slice_get, sym, subst, arith}
use Rattle.std.specs.List.{All}
use Rattle.symk_task.specs.declared.parts.Fact.{Fact}
use Rattle.symk_task.specs.declared.parts.Effect.{Effect}
use Rattle.symk_task.specs.declared.parts.Operator.{Operator}
use Rattle.symk_task.specs.declared.parts.TaskParts.{TaskParts}
use Rattle.symk_task.specs.Steps.{Holds, Allows, Applies}
use Rattle.symk_task.specs.Fits.{Fits, FitsOperator, InRange}
use Rattle.task_run.specs.Values.{HasValue, Valued, IsOn, AreBelow, AppliesBy}
use Rattle.symk_task.proofs.Places.{within_some}
use Rattle.task_run.proofs.Stepping.{effect_on}

allow : (task : TaskParts) (s values : List ℕ) (effect : Effect) (pre : Option ℕ) → Valued task s values
    → IfSome pre (λ val. InRange task.variables (record { var = effect.var; val = val }))
    → IfSome pre (λ val. get_or values effect.var 0 ≡ val) ↔ IfSome pre (λ val. Holds task s (record { var = effect.var; val = val }))
allow task s values effect None valued fit = ((λ _. tt), (λ _. tt))
allow task s values effect (Some val) valued fit = (let h = valued.holds (record { var = effect.var; val = val }) fit in (h.1, h.0))

pub applies_law : (task : TaskParts) (s values : List ℕ) (a : ℕ) (operator : Operator) → Valued task s values
    → slice_get task.operators a ≡ Some operator → FitsOperator task.variables operator
    → AppliesBy values operator ↔ Applies task s a
applies_law task s values a operator valued is fit = (
  (λ h. subst Says (sym is) (
    (λ k d lt. (valued.holds (get_or operator.prevail k d) (fit.prevail.1 k d lt)).1 (h.0 k d lt)),
    (λ k d lt. let e = get_or operator.effects k d in (allow task s values e e.pre valued (fit.each k d lt).pre).0 (h.1 k d lt)),
  )),
  (λ h. let both = subst Says is h in (
    (λ k d lt. (valued.holds (get_or operator.prevail k d) (fit.prevail.1 k d lt)).0 (both.0 k d lt)),
    (λ k d lt. let e = get_or operator.effects k d in (allow task s values e e.pre valued (fit.each k d lt).pre).1 (both.1 k d lt)),
  )),
)
  where
    Says : Option Operator → Type 0
    Says o = IsSomeAnd o (λ operator. All (Holds task s) operator.prevail × All (Allows task s) operator.effects)

pub below : (task : TaskParts) (values : List ℕ) (operator : Operator) → length values ≡ length task.variables
    → FitsOperator task.variables operator → AreBelow (length values) operator.prevail
    × All (IsOn (length values)) operator.effects
below task values operator e fit = (
  (λ k d lt. let h = within_some _ task.variables (get_or operator.prevail k d).var (fit.prevail.1 k d lt) in omega (arith, h, e)),
  (λ k d lt. effect_on task.variables values (get_or operator.effects k d) e (fit.each k d lt)),
)

pub goal_law : (task : TaskParts) (s closed values : List ℕ) (facts : List Fact) (answer : Bool) → Fits task
    → Valued task s closed → values ≡ closed → facts ≡ task.goal → IsTrue answer ↔ All (HasValue values) facts
    → IsTrue answer ↔ All (Holds task s) task.goal
goal_law task s closed values facts answer fits valued e f h = (
  (λ yes_so k d lt. (valued.holds (get_or task.goal k d) (fits.goal.1 k d lt)).1
      (subst (λ (z : List Fact). All (HasValue closed) z) f
      (subst (λ (z : List ℕ). All (HasValue z) facts) e (h.0 yes_so)) k d lt)),
  (λ all. h.1 (subst (λ (z : List ℕ). All (HasValue z) facts) (sym e)
      (subst (λ (z : List Fact). All (HasValue closed) z) (sym f)
      (λ k d lt. (valued.holds (get_or task.goal k d) (fits.goal.1 k d lt)).0 (all k d lt))))),
)

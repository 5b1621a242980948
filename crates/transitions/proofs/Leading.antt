-- An operator that applies leads somewhere.
use Rattle.std.proofs.Common.{◌≡◌, ℕ, suc, ◌<◌, ◌==◌, Bool, true, cond, List, [], ◌∷◌, length, get_or, Option, Some, None, IfSome, slice_get, refl, ◌∙◌, ap, arith}
use Rattle.std.specs.Option.{option_map_or}
use Rattle.std.specs.List.{list_all, fold}
use Rattle.std.proofs.lemmas.Bool.{eq-eqb, and_from}
use Rattle.symk_task.specs.declared.parts.Fact.{Fact}
use Rattle.symk_task.specs.declared.parts.Effect.{Effect}
use Rattle.symk_task.specs.declared.parts.Operator.{Operator}
use Rattle.symk_task.specs.declared.parts.TaskParts.{TaskParts}
use Rattle.symk_task.specs.Fits.{Fits}
use Rattle.symk_task.specs.Variables.{IsState, base_values}
use Rattle.symk_task.specs.Steps.{Applies, After}
use Rattle.symk_task.proofs.Running.{fits_operator}
use Rattle.task_run.proofs.Applying.{applies_law}
use Rattle.task_system.specs.Computed.{values_in, have_all, allow_all, value_set, step_by, step}
use Rattle.task_system.proofs.ValuesLaw.{values_law}
use Rattle.task_system.proofs.StepLaw.{step_law}

-- a test that each element passes
all_pass : {X : Type 0} (test : X → Bool) (xs : List X) → ((k : ℕ) (d : X) → k < length xs → test (get_or xs k d) ≡ true) → list_all test xs ≡ true
all_pass test [] h = refl
all_pass test (x ∷ xs) h = and_from (test x) (list_all test xs) (h 0 x (omega arith)) (all_pass test xs (λ k d lt. h (suc k) d (omega (arith, lt))))

allowed : (values : List ℕ) (var : ℕ) (pre : Option ℕ) → IfSome pre (λ val. get_or values var 0 ≡ val)
    → option_map_or (λ val. get_or values var 0 == val) pre true ≡ true
allowed values var None h = refl
allowed values var (Some val) h = eq-eqb (get_or values var 0) val h

pub leads : (task : TaskParts) (a : ℕ) (operator : Operator) → Fits task → slice_get task.operators a ≡ Some operator
    → (s : List ℕ) → IsState task s → Applies task s a → (t : List ℕ) × After task s a t
unfolding step
leads task a operator fits here s state applies =
    let values = values_in task s in
    let by = (applies_law task s values a operator (values_law task s fits) here (fits_operator task a operator fits here)).1 applies in
    let have : have_all values operator.prevail ≡ true = all_pass
    (λ (fact : Fact). get_or values fact.var 0 == fact.val) operator.prevail
    (λ k d lt. eq-eqb (get_or values (get_or operator.prevail k d).var 0)
    (get_or operator.prevail k d).val (by.0 k d lt)) in
    let allow : allow_all values operator.effects ≡ true = all_pass
    (λ (effect : Effect). option_map_or (λ val. get_or values effect.var 0 == val) effect.pre true)
    operator.effects (λ k d lt. allowed values (get_or operator.effects k d).var
    (get_or operator.effects k d).pre (by.1 k d lt)) in
    let t = base_values task.variables (fold (value_set values) values operator.effects) in
    let made : step task a s ≡ Some t = ap (λ (x : Option Operator). step_by task values x) here
    ∙ ap (λ (b : Bool). cond b (Some t) None) (and_from (have_all values operator.prevail)
    (allow_all values operator.effects) have allow) in
    (t, ((step_law task s a t fits state).0 made).1)

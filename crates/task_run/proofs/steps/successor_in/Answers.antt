use Rattle.std.proofs.Common.{◌≡◌, ◌<◌, List, ℕ, length, get_or, sym, subst, ap, ◌∙◌}
use Rattle.symk_task.specs.declared.parts.TaskParts.{TaskParts}
use Rattle.symk_task.specs.declared.parts.Variable.{Variable}
use Rattle.symk_task.specs.declared.parts.Effect.{Effect}
use Rattle.symk_task.specs.Variables.{IsState}
use Rattle.symk_task.specs.Steps.{After, ValueAfter}
use Rattle.symk_task.specs.Variables.{base_values}
use Rattle.task_run.specs.Values.{FiresBy, Valued}
use Rattle.symk_task.proofs.Places.{within_some}
use Rattle.task_run.proofs.Stepping.{operator_at, if_ok, step_after}
use Rattle.symk_task.proofs.Running.{step_state}
use Rattle.task_run.proofs.steps.successor_in.Goals as goal

pub returns : goal.returns
returns c =
    let task = c.args.task.now in
    let s = c.args.state.now in
    let a = c.args.operator in
    let operator = c.index-as_slice-operator.result in
    let values = c.as_slice-3.result.now in
    let next = c.in_ok-next.next.items in
    let lt : a < length task.operators = within_some _ task.operators a c.requires.applies in
    let at = operator_at task c.as_slice.result.now a operator c.parts-parts.ensures.fits
    (c.as_slice.ensures ∙ ap (λ (x : TaskParts). x.operators) c.parts-parts.ensures.value) lt
    c.index-as_slice-operator.is in
    let valued = subst (λ (z : List ℕ). Valued task s z) (sym c.as_slice-3.ensures) c.requires.valued in
    let after = subst (λ (es : List Effect). (var : ℕ) → ValueAfter (FiresBy values) es var (get_or values var 0)
    (get_or next var 0)) c.as_slice-2.ensures c.in_ok-next.ensures.values in
    let done = step_after a next c.requires.state at.0 at.1.each valued after c.in_ok-next.ensures.each in
    let variables : c.as_slice-4.result.now ≡ task.variables = c.as_slice-4.ensures ∙ ap (λ (x : TaskParts). x.variables) c.parts-parts.ensures.value in
    let all = if_ok c.base_values.result (λ t. t ≡ base_values c.as_slice-4.result.now c.deref.result.now) (λ t. After task s a t)
    (λ t e. subst (λ (z : List ℕ). After task s a z)
    (sym (e ∙ ap (λ (vs : List Variable). base_values vs c.deref.result.now) variables
    ∙ ap (λ (z : List ℕ). base_values task.variables z) c.deref.ensures.value)) done)
    c.base_values.ensures in
    record {
      after = all;
      state = if_ok c.base_values.result (After task s a) (IsState task)
          (λ t h. step_state task s a t c.parts-parts.ensures.fits c.requires.state (c.requires.applies, h)) all;
    }

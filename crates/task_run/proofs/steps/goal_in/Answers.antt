use Rattle.std.proofs.Common.{◌≡◌, ◌∙◌, ap}
use Rattle.symk_task.specs.declared.parts.TaskParts.{TaskParts}
use Rattle.task_run.proofs.Applying.{goal_law}
use Rattle.task_run.proofs.steps.goal_in.Goals as goal

pub returns : goal.returns
returns c =
    let task = c.args.task.now in
    let facts : c.as_slice.result.now ≡ task.goal = c.as_slice.ensures ∙ ap (λ (x : TaskParts). x.goal) c.parts.ensures.value in
    goal_law task c.args.state.now c.args.values.now c.as_slice-2.result.now c.as_slice.result.now c.all_have.result
    c.parts.ensures.fits c.requires (c.as_slice-2.ensures) facts c.all_have.ensures

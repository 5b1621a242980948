use Rattle.std.proofs.Common.{◌<◌, sym, subst, arith}
use Rattle.symk_task.specs.declared.parts.TaskParts.{TaskParts}
use Rattle.plan_run.specs.Costs.{HasMorePlans}
use Rattle.symk_cli.proofs.Switched.{switches_have_more}
use Rattle.symk_cli.proofs.demo.summary.Goals as goal

pub costs_found-requires : goal.costs_found-requires
costs_found-requires c =
    let some : 0 < c.args.number = omega arith in
    subst (λ (t : TaskParts). HasMorePlans t 20) (sym c.in_ok-task.ensures) (switches_have_more c.args.number some c.requires.most)

use Rattle.plan_run.proofs.Keeping.{ready_kept}
use Rattle.plan_run.proofs.beginning.kept_to.Goals as goal

pub returns-clause-ready : goal.returns-clause-ready
returns-clause-ready g c =
    let view = g.S.Space.view in
    ready_kept (view c.args.space.now) (view c.within.new.space) c.args.task.now c.in_ok-kept.kept c.requires.none c.within.ensures.kept c.in_ok-kept.ensures.ok c.in_ok-kept.ensures.useful

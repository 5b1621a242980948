use Rattle.task_run.proofs.OneVerdict.{one_verdict}
use Rattle.task_run.proofs.run.plan_has_one_verdict.Goals as goal

pub returns : goal.returns
returns c = one_verdict

use Rattle.plan_run.specs.Jobs.{aim_of}
use Rattle.plan_run.proofs.Listed.{memory_lists}
use Rattle.plan_run.proofs.engines.list_found.Goals as goal

pub returns-in_default-clause-lists : goal.returns-in_default-clause-lists
returns-in_default-clause-lists g c = memory_lists (aim_of c.args.job) (g.K.Sink.view c.args.sink.now)

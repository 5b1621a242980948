use Rattle.plan_run.specs.Jobs.{aim_of}
use Rattle.plan_run.proofs.Listed.{memory_lists}
use Rattle.plan_run.proofs.Owing.{owes_as}
use Rattle.plan_run.proofs.engines.list_classes.Goals as goal

pub returns-in-Err-clause-lists : goal.returns-in-Err-clause-lists
returns-in-Err-clause-lists g c = memory_lists (aim_of c.args.job) (g.K.Sink.view c.args.sink.now)

pub list_rest-requires-clause-owes : goal.list_rest-requires-clause-owes
list_rest-requires-clause-owes g c = owes_as c.requires.mode c.in-Ok.ensures

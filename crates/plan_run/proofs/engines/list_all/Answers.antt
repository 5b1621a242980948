use Rattle.plan_run.specs.Jobs.{aim_of}
use Rattle.plan_run.proofs.Listed.{memory_lists}
use Rattle.plan_run.proofs.Owing.{owes_as}
use Rattle.plan_run.proofs.engines.list_all.Goals as goal

pub returns-in-Err-clause-lists : goal.returns-in-Err-clause-lists
returns-in-Err-clause-lists g c = memory_lists (aim_of c.args.job) (g.K.Sink.view c.args.sink.now)

pub returns-in-Err-top_plans-clause-lists : goal.returns-in-Err-top_plans-clause-lists
returns-in-Err-top_plans-clause-lists g c = memory_lists (aim_of c.args.job) (g.K.Sink.view c.args.sink.now)

pub list_rest-requires-clause-owes : goal.list_rest-requires-clause-owes
list_rest-requires-clause-owes g c = owes_as c.requires.mode c.in-Ok.ensures

pub list_rest-requires-in-Ok-top_plans-clause-owes : goal.list_rest-requires-in-Ok-top_plans-clause-owes
list_rest-requires-in-Ok-top_plans-clause-owes g c = owes_as c.requires.mode c.in-Ok-top_plans.ensures

use Rattle.engine_tests.proofs.Handed.{ready}
use Rattle.engine_tests.proofs.engines.later_plans.Goals as goal

pub within_later-requires : goal.within_later-requires
within_later-requires g c = ready (g.S.Space.view c.args.space) (g.S.Space.view c.all.new.self) c.in_ok-all.all c.in_ok-all.ensures.reached c.in_ok-all.ensures.makes.kept.system c.in_ok-all.ensures.makes.ok c.requires

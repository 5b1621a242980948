use Rattle.engine_tests.proofs.Handed.{ready}
use Rattle.engine_tests.proofs.engines.all_plans.Goals as goal

pub new_within-requires : goal.new_within-requires
new_within-requires g c = ready (g.S.Space.view c.args.space) (g.S.Space.view c.all.new.self) c.in_ok-all.all c.in_ok-all.ensures.reached c.in_ok-all.ensures.makes.kept.system c.in_ok-all.ensures.makes.ok c.requires

pub within_most-requires : goal.within_most-requires
within_most-requires g c = ready (g.S.Space.view c.args.space) (g.S.Space.view c.all.new.self) c.in_ok-all.all c.in_ok-all.ensures.reached c.in_ok-all.ensures.makes.kept.system c.in_ok-all.ensures.makes.ok c.requires

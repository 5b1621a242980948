use Rattle.run_graph.proofs.Listed.{all_useful}
use Rattle.engine_tests.proofs.engines.member_plans.Goals as goal

pub new_within-requires-clause-wide : goal.new_within-requires-clause-wide
new_within-requires-clause-wide g c = all_useful (g.S.Space.view c.args.space) (g.S.Space.view c.all.new.self) c.in_ok-all.all c.in_ok-all.ensures.reached c.in_ok-all.ensures.makes.kept.system c.in_ok-all.ensures.makes.ok

pub within_most-requires-clause-wide : goal.within_most-requires-clause-wide
within_most-requires-clause-wide g c = all_useful (g.S.Space.view c.args.space) (g.S.Space.view c.all.new.self) c.in_ok-all.all c.in_ok-all.ensures.reached c.in_ok-all.ensures.makes.kept.system c.in_ok-all.ensures.makes.ok

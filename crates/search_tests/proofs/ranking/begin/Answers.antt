use Rattle.run_graph.proofs.Listed.{all_useful}
use Rattle.search_tests.proofs.ranking.begin.Goals as goal

pub new-requires-clause-wide : goal.new-requires-clause-wide
new-requires-clause-wide g c = all_useful (g.S.Space.view c.args.space.now) (g.S.Space.view c.all.new.self) c.in_ok-all.all c.in_ok-all.ensures.reached c.in_ok-all.ensures.makes.kept.system c.in_ok-all.ensures.makes.ok

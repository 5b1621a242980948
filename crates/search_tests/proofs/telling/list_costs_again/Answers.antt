use Rattle.run_graph.proofs.Listed.{all_useful}
use Rattle.search_tests.proofs.telling.list_costs_again.Goals as goal

pub new_later-requires-clause-later : goal.new_later-requires-clause-later
new_later-requires-clause-later g c =
    let view = g.S.Space.view in
    all_useful (view c.args.space.now) (view c.all.new.self) c.in_ok-all.all c.in_ok-all.ensures.reached c.all.ensures.makes.kept.system c.in_ok-all.ensures.makes.ok

use Rattle.run_graph.proofs.Listed.{all_useful}
use Rattle.prefix_plans.proofs.engine.PrefixPlans.begin_anywhere.Goals as goal

pub begin-requires-clause-wide : goal.begin-requires-clause-wide
begin-requires-clause-wide g c = all_useful (g.S.Space.view c.args.space) (g.S.Space.view c.all.new.self)
    c.in_ok-within.within c.in_ok-within.ensures.reached c.in_ok-within.ensures.makes.kept.system
    c.in_ok-within.ensures.makes.ok

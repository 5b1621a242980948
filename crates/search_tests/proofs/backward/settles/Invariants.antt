use Rattle.cost_search.specs.Directed.{IsBackward}
use Rattle.search_tests.proofs.backward.settles.Given as goal

abbrev pub invariant-costs : goal.invariant-costs
invariant-costs g l = IsBackward (g.S.Space.view l.space) l.backward

use Rattle.cost_search.specs.Directed.{IsForward}
use Rattle.search_tests.proofs.forward.settles.Given as goal

abbrev pub invariant-costs : goal.invariant-costs
invariant-costs g l = IsForward (g.S.Space.view l.space) l.forward

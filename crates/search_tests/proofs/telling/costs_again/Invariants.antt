use Rattle.bidirectional.specs.Both.{IsBoth}
use Rattle.search_tests.proofs.telling.costs_again.Given as goal

abbrev pub invariant-costs : goal.invariant-costs
invariant-costs g l = IsBoth (g.S.Space.view l.space) l.both

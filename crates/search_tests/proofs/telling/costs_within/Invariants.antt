use Rattle.bidirectional.specs.Both.{BothGoOn}
use Rattle.search_tests.proofs.telling.costs_within.Given as goal

abbrev pub invariant-costs : goal.invariant-costs
invariant-costs g l =
    let view = g.S.Space.view in
    BothGoOn (view l.fn.space) (view l.space) l.fn.both l.both

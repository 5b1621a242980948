use Rattle.space_api.specs.Frames.{Stays}
use Rattle.search_tests.proofs.both.refusals.alternate.Given as goal

abbrev pub invariant-costs : goal.invariant-costs
invariant-costs g l =
    let view = g.S.Space.view in
    Stays (view l.fn.space) (view l.space)

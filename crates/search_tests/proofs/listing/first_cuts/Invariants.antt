use Rattle.space_api.specs.Frames.{Stays}
use Rattle.search_tests.proofs.listing.first_cuts.Given as goal

abbrev pub invariant-cuts : goal.invariant-cuts
invariant-cuts g l =
    let view = g.S.Space.view in
    Stays (view l.fn.space) (view l.space)

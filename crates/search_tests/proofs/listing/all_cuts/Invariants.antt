use Rattle.std.proofs.Common.{◌≡◌}
use Rattle.space_api.specs.Frames.{Stays}
use Rattle.bidirectional.specs.Iterating.{space_of}
use Rattle.search_tests.proofs.listing.all_cuts.Given as goal

abbrev pub invariant-cuts : goal.invariant-cuts
invariant-cuts g l =
    let view = g.S.Space.view in
    record {
      can : (goal.iterator-cuts g).can_next l.cut-iterator;
      ends : (goal.iterator-cuts g).is_finite l.cut-iterator;
      stays : Stays (view l.fn.space) (view (space_of l.cut-iterator));
      name : l.cut-iterator.space.ghost_name ≡ l.initial.cut-iterator.space.ghost_name;
    }

use Rattle.std.proofs.Common.{ℕ, ◌<◌}
use Rattle.space_api.specs.Frames.{Stays}
use Rattle.cost_layers.specs.Rings.{MeetsRing}
use Rattle.cost_layers.proofs.meeting.first_meeting.Given as goal

abbrev pub invariant-loop-i : goal.invariant-loop-i
invariant-loop-i g l =
    let view = g.S.Space.view in
    record {
      stays : Stays (view l.fn.space) (view l.space);
      none : (j : ℕ) → j < l.i → ¬ MeetsRing (view l.fn.space) l.rings l.set j;
    }

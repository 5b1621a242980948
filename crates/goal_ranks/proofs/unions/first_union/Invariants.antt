use Rattle.std.proofs.Common.{◌-◌, ◌≤◌, length}
use Rattle.space_api.specs.Frames.{Stays}
use Rattle.goal_ranks.proofs.Uniting.{Splits}
use Rattle.goal_ranks.proofs.unions.first_union.Given as goal

abbrev pub invariant-halves : goal.invariant-halves
invariant-halves g l =
    let view = g.S.Space.view in
    record {
      stays : Stays (view l.fn.space) (view l.space);
      order : l.span.low ≤ l.span.high;
      high : l.span.high ≤ length l.unions;
      splits : Splits (view l.fn.space) l.unions l.set l.span.low l.span.high;
    }

abbrev pub decreases-halves : goal.decreases-halves
decreases-halves g l = l.span.high - l.span.low

use Rattle.space_api.specs.Frames.{Stays}
use Rattle.cost_search.specs.Meeting.{NoneMeetsFrom}
use Rattle.cost_search.proofs.Coming.{bound_of, left, IsNext}
use Rattle.cost_search.proofs.costs.first_meeting.Given as goal

abbrev pub invariant-costs : goal.invariant-costs
invariant-costs g l =
    let view = g.S.Space.view in
    record {
      stays : Stays (view l.fn.space) (view l.space);
      next : IsNext l.next;
      none : NoneMeetsFrom (view l.fn.space) l.layers l.set l.low (bound_of l.next);
    }

abbrev pub decreases-costs : goal.decreases-costs
decreases-costs g l = left l.next

use Rattle.std.proofs.Common.{inr, slice_get}
use Rattle.stubborn_sets.specs.Meeting.{MeetEach}
use Rattle.stubborn_sets.proofs.CommuteLaw.{by_range}
use Rattle.stubborn_sets.proofs.meeting.meet.Goals as goal

pub returns-then-are_both_local : goal.returns-then-are_both_local
returns-then-are_both_local c = λ yes.
    let local = c.are_both_local.ensures.0 c.if-are_both_local.true in
    record {
      well = inr (inr (
        local.0,
        local.1,
        by_range (MeetEach c.args.parts.now c.args.one.now c.args.other.now c.args.var)
            (slice_get c.args.parts.now.variables c.args.var) c.in-Some.range c.in-Some.ensures
            (c.meet_each.ensures yes),
      ));
    }

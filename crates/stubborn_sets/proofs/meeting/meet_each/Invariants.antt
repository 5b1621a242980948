use Rattle.stubborn_sets.specs.Meeting.{MeetEach}
use Rattle.stubborn_sets.proofs.meeting.meet_each.Given as goal

abbrev pub invariant-loop-val : goal.invariant-loop-val
invariant-loop-val l = MeetEach l.parts l.one l.other l.var l.val

use Rattle.stubborn_sets.specs.Kept.{IsOff, LeavesOut}
use Rattle.stubborn_sets.proofs.makers.writers.Given as goal

abbrev pub invariant-loop-op : goal.invariant-loop-op
invariant-loop-op l = LeavesOut (IsOff l.task l.marks) l.op l.ops.items

use Rattle.task_system.specs.Computed.{system_of}
use Rattle.stubborn_sets.specs.Commuting.{Commute}
use Rattle.stubborn_sets.specs.Kept.{LeavesOut}
use Rattle.stubborn_sets.proofs.conflicts.conflicts_of.Given as goal

abbrev pub invariant-loop-other : goal.invariant-loop-other
invariant-loop-other l = LeavesOut (Commute (system_of l.task) l.one) l.other l.ops.items

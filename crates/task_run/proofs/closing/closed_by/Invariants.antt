use Rattle.std.proofs.Common.{◌-◌, length}
use Rattle.task_run.proofs.Rounds.{IsClosedTo}
use Rattle.task_run.proofs.closing.closed_by.Given as goal

abbrev pub invariant-layers : goal.invariant-layers
invariant-layers l = IsClosedTo l.parts l.state l.counting l.at l.values.items l.work.stack.items l.work.waiting.items l.work.places.items

abbrev pub decreases-layers : goal.decreases-layers
decreases-layers l = length l.counting - l.at

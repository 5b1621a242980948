use Rattle.std.proofs.Common.{◌≡◌, length}
use Rattle.task_draws.proofs.loose.operators.Given as goal

abbrev pub invariant-operators : goal.invariant-operators
invariant-operators l = length l.operators.items ≡ l.i

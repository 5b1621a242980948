use Rattle.std.proofs.Common.{◌≡◌, length}
use Rattle.task_draws.proofs.kinds.Kinds.variables.Given as goal

abbrev pub invariant-kinds : goal.invariant-kinds
invariant-kinds l = length l.variables.items ≡ l.kind-index

use Rattle.std.proofs.Common.{ℕ, ◌^◌, ◌<◌}
use Rattle.symk_task.proofs.bits.width.Given as goal

abbrev pub invariant-loop-bits : goal.invariant-loop-bits
invariant-loop-bits l = (k : ℕ) → k < l.bits → 2 ^ k < l.values

use Rattle.std.proofs.Common.{◌≡◌, ◌+◌, length}
use Rattle.task_draws.proofs.kinds.Kinds.drawn.Given as goal

abbrev pub invariant-bases : goal.invariant-bases
invariant-bases l = length l.items.items ≡ l.counter

abbrev pub invariant-derived : goal.invariant-derived
invariant-derived l = length l.items.items ≡ l.bases + l.counter

use Rattle.std.proofs.Common.{ℕ, ◌<◌, length, slice_index}
use Rattle.bdd_bench.proofs.calls.known_all.Given as goal

abbrev pub invariant-ids : goal.invariant-ids
invariant-ids l = (k : ℕ) → k < l.i → k < length l.ids → slice_index l.ids k < length l.ops

use Rattle.std.proofs.Common.{◌≡◌, ℕ, ◌<◌, ◌≤◌, IsTrue, slice_index_or}
use Rattle.stubborn_sets.specs.Depending.{has_mark}
use Rattle.stubborn_sets.proofs.choosing.unmarked.Given as goal

abbrev pub invariant-loop-op : goal.invariant-loop-op
invariant-loop-op l = record {
  count : l.count ≤ l.op-index;
  marked : l.count ≡ 0 → (k d : ℕ) → k < l.op-index → IsTrue (has_mark l.marks (slice_index_or l.ops k d));
}

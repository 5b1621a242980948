use Rattle.std.proofs.Common.{◌≡◌, ◌<◌, ◌^◌, ℕ, length, get_or}
use Rattle.bdd_sets.proofs.occurring.rows.Given as goal

abbrev pub invariant-loop-block : goal.invariant-loop-block
invariant-loop-block l = record {
  each : length l.starts.items ≡ l.block-index;
  below : (slot : ℕ) → slot < length l.starts.items → get_or l.starts.items slot 0 < 2 ^ 63;
}

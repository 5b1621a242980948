use Rattle.std.proofs.Common.{◌≡◌, ℕ, ◌-◌, ◌<◌, ◌≤◌, length, slice_index_or}
use Rattle.task_run.specs.declared.counting.Counting.{Counting}
use Rattle.axiom_layers.proofs.compiling.layer_end.Given as goal

abbrev pub invariant-same : goal.invariant-same
invariant-same l = record {
  rising : l.from ≤ l.end;
  within : l.end ≤ length l.rules;
  same : (k : ℕ) (d : Counting) → l.from ≤ k → k < l.end → (slice_index_or l.rules k d).layer ≡ l.layer;
}

abbrev pub decreases-same : goal.decreases-same
decreases-same l = length l.rules - l.end

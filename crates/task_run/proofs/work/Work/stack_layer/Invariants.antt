use Rattle.std.proofs.Common.{◌≡◌, ℕ, ◌-◌, ◌<◌, ◌≤◌, ◌⊎◌, length, slice_index_or}
use Rattle.std.specs.List.{Any}
use Rattle.task_run.specs.declared.counting.Counting.{Counting}
use Rattle.task_run.specs.Work.{StandsInList}
use Rattle.task_run.proofs.work.Work.stack_layer.Given as goal

abbrev pub invariant-same : goal.invariant-same
invariant-same l = record {
  rising : l.from ≤ l.end;
  within : l.end ≤ length l.rules;
  same : (k : ℕ) (d : Counting) → l.from ≤ k → k < l.end → (slice_index_or l.rules k d).layer ≡ l.layer;
  stacked : (k : ℕ) (d : Counting) → l.from ≤ k → k < l.end → StandsInList l.self.stack.items (slice_index_or l.rules k d).rule;
  only : (x : ℕ) → StandsInList l.self.stack.items x → StandsInList l.fn.self.stack.items x ⊎ Any (λ (counting : Counting). counting.rule ≡ x) l.rules;
  waiting : l.self.waiting.items ≡ l.fn.self.waiting.items;
  places : l.self.places.items ≡ l.fn.self.places.items;
}

abbrev pub decreases-same : goal.decreases-same
decreases-same l = length l.rules - l.end

-- The rules that count, by layer.
use Rattle.std.specs.Prelude.{◌≡◌, ℕ, ◌<◌, ◌≤◌, List, length, slice_get, slice_index_or, All, Contains, IsSomeAnd}
use Rattle.std.specs.List.Sorted.{IsNonDecreasingBy}
use Rattle.symk_task.specs.declared.parts.TaskParts.{TaskParts}
use Rattle.task_run.specs.declared.counting.Counting.{Counting}
use Rattle.task_run.specs.Layer.{IsOwnRule}

-- the number is that of a rule that counts, for a variable of the layer
abbrev pub IsCounting : TaskParts → Counting → Type 0
IsCounting task counting = IsSomeAnd (slice_get task.rules counting.rule) (IsOwnRule task counting.layer)

-- The list has each rule that counts, and no other; layers never fall.
pub record AreRulesOf (task : TaskParts) (rules : List Counting) : Type 0 where
  pub counting : All (IsCounting task) rules
  pub each : (counting : Counting) → IsCounting task counting → Contains rules counting
  pub by_layer : IsNonDecreasingBy (λ (counting : Counting). counting.layer) rules

-- the rules from one place to the other are all that begin at the first and are for the layer
pub record IsLayer (rules : List Counting) (layer from end : ℕ) : Type 0 where
  pub rising : from ≤ end
  pub within : end ≤ length rules
  pub same : (k : ℕ) (d : Counting) → from ≤ k → k < end → (slice_index_or rules k d).layer ≡ layer
  pub last : end < length rules → (d : Counting) → ¬ ((slice_index_or rules end d).layer ≡ layer)

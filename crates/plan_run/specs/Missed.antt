-- What an earlier list misses, though it is cheaper than the list's last plan.
use Rattle.std.specs.Prelude.{◌≡◌, ℕ, ◌-◌, ◌<◌, ◌≤◌, List, length, slice_get, IsSomeAnd}
use Rattle.symk_task.specs.declared.parts.Mode.{Mode}
use Rattle.symk_task.specs.declared.parts.TaskParts.{TaskParts}
use Rattle.symk_task.specs.Plans.{IsPlanOf, IsListed, cost_of}

-- a plan of the mode that counts as one with no member of the list, though it is cheaper than the last one
pub record IsMissed (task : TaskParts) (mode : Mode) (plans : List (List ℕ)) (p : List ℕ) : Type 0 where
  pub plan : IsPlanOf task mode p
  pub unlisted : ¬ IsListed mode plans p
  pub cheaper : IsSomeAnd (slice_get plans (length plans - 1)) (λ last. cost_of task p < cost_of task last)

-- The list misses a plan of this cost, and none that is cheaper.
pub record MissesPlan (task : TaskParts) (mode : Mode) (plans : List (List ℕ)) (cost : ℕ) : Type 0 where
  pub plan : List ℕ
  pub missed : IsMissed task mode plans plan
  pub costs : cost_of task plan ≡ cost
  pub least : (q : List ℕ) → IsMissed task mode plans q → cost ≤ cost_of task q

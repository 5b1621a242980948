-- How the greatest set of groups is found: groups that fail are thrown out, round by round.
use Rattle.std.specs.Prelude.{◌≡◌, ℕ, ◌<◌, ◌≤◌, List, length, slice_index_or, Contains}
use Rattle.std.specs.List.Sorted.{IsStrictlyIncreasing}
use Rattle.symk_task.specs.declared.parts.TaskParts.{TaskParts}
use Rattle.symk_task.specs.Variables.{IsState}
use Rattle.symk_task.specs.Steps.{Step}
use Rattle.symk_task.specs.Plans.{IsInitial}
use Rattle.task_system.specs.System.{State}
use Rattle.mutex_use.specs.Groups.{KeepsGroup, KeepsGroups, IsBaseGroup, IsPartOf}

-- The group doesn't fail: it is over base variables, the initial state keeps it, and so does each state to which
-- an operator leads from one of From.
pub record StandsFrom (task : TaskParts) (From : State → Type 0) (g : ℕ) : Type 0 where
  pub base : IsBaseGroup task g
  pub initial : (s : State) → IsInitial task s → KeepsGroup task s g
  pub steps : (s t : State) (a : ℕ) → IsState task s → From s → Step task s a t → KeepsGroup task t g

-- so where the groups are these
abbrev pub GroupStands : TaskParts → List ℕ → ℕ → Type 0
GroupStands task groups g = StandsFrom task (λ s. KeepsGroups task s groups) g

-- those of the groups are left that don't fail
pub record IsRound (task : TaskParts) (groups left : List ℕ) : Type 0 where
  pub part : IsPartOf left groups
  pub stand : (g : ℕ) → Contains left g → GroupStands task groups g
  pub stay : (g : ℕ) → Contains groups g → GroupStands task groups g → Contains left g

-- the list is those of the first n groups that don't fail, in their order
pub record AreGroupsLeft (task : TaskParts) (From : State → Type 0) (groups : List ℕ) (n : ℕ) (left : List ℕ) : Type 0 where
  pub rising : IsStrictlyIncreasing left
  pub stand : (g : ℕ) → Contains left g → Contains groups g × StandsFrom task From g
  pub stay : (k d : ℕ) → k < n →
      StandsFrom task From (slice_index_or groups k d) → Contains left (slice_index_or groups k d)
  pub below : (g k d : ℕ) → Contains left g → n ≤ k → k < length groups → g < slice_index_or groups k d
  pub few : length left ≤ n
  pub all : length left ≡ n → (k d : ℕ) → k < n → Contains left (slice_index_or groups k d)

-- Mutex groups that hold: those that the initial state keeps, and every operator.
use Rattle.std.specs.Prelude.{◌≡◌, ℕ, ◌<◌, List, length, slice_index_or, Contains, All, []}
use Rattle.symk_task.specs.declared.parts.Fact.{Fact}
use Rattle.symk_task.specs.declared.parts.TaskParts.{TaskParts}
use Rattle.symk_task.specs.Variables.{IsBase, IsState}
use Rattle.symk_task.specs.Steps.{Holds, Step}
use Rattle.symk_task.specs.Plans.{IsInitial}
use Rattle.task_system.specs.System.{State}

-- the facts of the group of this number
abbrev pub mutex_group_at : TaskParts → ℕ → List Fact
mutex_group_at task g = slice_index_or task.mutexes g []

-- at most one of the facts holds in the state; a fact that stands twice is one fact
abbrev pub HasAtMostOne : TaskParts → List Fact → State → Type 0
HasAtMostOne task facts s =
    (f h : Fact) → Contains facts f → Contains facts h → Holds task s f → Holds task s h → f ≡ h

-- the state keeps the group of this number
abbrev pub KeepsGroup : TaskParts → State → ℕ → Type 0
KeepsGroup task s g = HasAtMostOne task (mutex_group_at task g) s

-- the state keeps each of these groups
abbrev pub KeepsGroups : TaskParts → State → List ℕ → Type 0
KeepsGroups task s groups = (g : ℕ) → Contains groups g → KeepsGroup task s g

-- each fact is one of a base variable
abbrev pub AreBaseFacts : TaskParts → List Fact → Type 0
AreBaseFacts task facts = All (λ (fact : Fact). IsBase task fact.var) facts

-- the group is one of the task's, over base variables alone
abbrev pub IsBaseGroup : TaskParts → ℕ → Type 0
IsBaseGroup task g = (g < length task.mutexes) × AreBaseFacts task (mutex_group_at task g)

-- The groups are over base variables alone, the initial state keeps them, and where a state keeps them, so does
-- each to which an operator leads.
pub record GroupsHold (task : TaskParts) (groups : List ℕ) : Type 0 where
  pub base : (g : ℕ) → Contains groups g → IsBaseGroup task g
  pub initial : (s : State) → IsInitial task s → KeepsGroups task s groups
  pub steps : (s t : State) (a : ℕ) →
      IsState task s → KeepsGroups task s groups → Step task s a t → KeepsGroups task t groups

-- each number of the one list is one of the other
abbrev pub IsPartOf : List ℕ → List ℕ → Type 0
IsPartOf xs ys = (g : ℕ) → Contains xs g → Contains ys g

-- each group of a set that holds is one of these
abbrev pub CoversAll : TaskParts → List ℕ → Type 0
CoversAll task groups = (others : List ℕ) → GroupsHold task others → IsPartOf others groups

-- they hold, and each set that holds is part of them
abbrev pub AreGreatestGroups : TaskParts → List ℕ → Type 0
AreGreatestGroups task groups = GroupsHold task groups × CoversAll task groups

-- the state is one of the task, and keeps each of these groups
abbrev pub IsKeeper : TaskParts → List ℕ → State → Type 0
IsKeeper task groups s = IsState task s × KeepsGroups task s groups

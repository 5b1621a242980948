-- What is kept from set to set, and sets that were made.
use Rattle.std.specs.Prelude.{◌≡◌, ℕ, Bool, List, length}
use Rattle.symk_task.specs.declared.parts.TaskParts.{TaskParts}
use Rattle.symk_task.specs.Variables.{IsState}
use Rattle.task_run.specs.Values.{Valued}
use Rattle.task_system.specs.Computed.{system_of}
use Rattle.stubborn_sets.specs.Stubborn.{Stubborn}
use Rattle.stubborn_sets.specs.declared.sets.StubbornSets.{StubbornSets}
use Rattle.stubborn_sets.specs.Kept.{KnowsMakers, KnowsConflicts}
use Rattle.stubborn_sets.specs.Closing.{has_mark}

-- What is kept is right for the task.
pub record AreOf (task : TaskParts) (sets : StubbornSets) : Type 0 where
  pub makers : KnowsMakers task sets.makers
  pub conflicts : KnowsConflicts task sets.conflicts

-- A mark for each operator: a stubborn set of each state with these values.
pub record IsStubbornBy (task : TaskParts) (values : List ℕ) (marks : List Bool) : Type 0 where
  pub each : length marks ≡ length task.operators
  pub stubborn : (s : List ℕ) → IsState task s → Valued task s values → Stubborn (system_of task) (has_mark marks) s

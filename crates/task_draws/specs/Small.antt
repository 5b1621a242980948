-- Tasks that are small enough to try calls on.
use Rattle.std.specs.Prelude.{◌≤◌, length}
use Rattle.symk_task.specs.declared.parts.TaskParts.{TaskParts}

-- few variables, and few operators
pub record IsSmall (task : TaskParts) : Type 0 where
  pub variables : length task.variables ≤ 7
  pub operators : length task.operators ≤ 6

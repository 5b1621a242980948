-- Plans that have a block.
use Rattle.std.specs.Prelude.{ℕ, ◌<◌, ◌^◌, List, length, All}
use Rattle.symk_task.specs.declared.parts.TaskParts.{TaskParts}
use Rattle.symk_task.specs.Plans.{cost_of}

-- a list of the task's operators of at most 64-bit cost
pub record IsListable (task : TaskParts) (plan : List ℕ) : Type 0 where
  pub operators : All (λ a. a < length task.operators) plan
  pub cost : cost_of task plan < 2 ^ 64

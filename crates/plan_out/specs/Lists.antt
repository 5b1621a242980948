-- What a list of blocks that is called good is.
use Rattle.std.specs.Prelude.{ℕ, ◌<◌, List, length, map, slice_get, All, IfSome}
use Rattle.std.specs.List.Sorted.{IsNonDecreasing}
use Rattle.symk_task.specs.declared.parts.Mode.{Mode}
use Rattle.symk_task.specs.declared.parts.TaskParts.{TaskParts}
use Rattle.symk_task.specs.Plans.{IsPlanOf, Same, cost_of}
use Rattle.plan_out.specs.declared.blocks.ReadBlock.{ReadBlock}
use Rattle.plan_out.specs.Fails.{AreNamed, IsCostLine}

-- the lists of operators of the blocks
abbrev pub plans_of : List ReadBlock → List (List ℕ)
plans_of blocks = map (λ b. b.ops) blocks

-- Each block is a plan of the mode, no two count as one, and costs never fall; each is printed with its operators' names and its plan's cost line.
pub record IsGoodList (task : TaskParts) (mode : Mode) (blocks : List ReadBlock) : Type 0 where
  pub each : All (IsPlanOf task mode) (plans_of blocks)
  pub different : (i j : ℕ) → i < j → j < length blocks → IfSome (slice_get (plans_of blocks) i) (λ p. IfSome (slice_get (plans_of blocks) j) (λ q. ¬ Same mode p q))
  pub costs : IsNonDecreasing (map (cost_of task) (plans_of blocks))
  pub names : All (AreNamed task) blocks
  pub cost_lines : All (λ b. IsCostLine task b (cost_of task b.ops)) blocks

-- Why a block of a list fails.
use Rattle.std.specs.Prelude.{◌≡◌, ℕ, ◌-◌, ◌<◌, ◌≤◌, List, [], length, take, slice_get, slice_index, slice_index_or, All, Contains, IsSomeAnd}
use Rattle.std.specs.Option.{option_map_or}
use Rattle.symk_task.specs.declared.parts.Mode.{Mode}
use Rattle.symk_task.specs.declared.parts.Mode.TheVariants.{Loopless}
use Rattle.symk_task.specs.declared.parts.Operator.{Operator}
use Rattle.symk_task.specs.declared.parts.TaskParts.{TaskParts}
use Rattle.symk_task.specs.Plans.{IsInitial, Trace, Same, cost_of}
use Rattle.task_run.specs.Verdicts.{IsTooLarge, Stops, Misses}
use Rattle.plan_out.specs.declared.blocks.ReadBlock.{ReadBlock}
use Rattle.plan_out.specs.declared.check.Why.{Why}
use Rattle.plan_out.specs.declared.check.Why.TheVariants.{NoSuchOperator, WrongName, StopsAt, MissesGoal, WrongCost, Repeats, Cheaper, Loops}
use Rattle.plan_out.specs.declared.check.Checked.{Checked}
use Rattle.plan_out.specs.declared.check.Checked.TheVariants.{Good, Bad}
use Rattle.plan_out.specs.Texts.{is_unit}

-- the name of the operator of this number
abbrev pub name_of : List Operator → ℕ → List ℕ
name_of all op = option_map_or (λ operator. operator.name) (slice_get all op) []

-- the line of the step has its operator's name
abbrev pub IsStepNamed : List Operator → List ℕ → List (List ℕ) → ℕ → Type 0
IsStepNamed all ops names i = slice_index_or names i [] ≡ name_of all (slice_index ops i)

-- each step line has its operator's name
abbrev pub AreNamed : TaskParts → ReadBlock → Type 0
AreNamed task b = (k : ℕ) → k < length b.ops → IsStepNamed task.operators b.ops b.names k

-- the first step whose line has another name than its operator's
pub record IsMisnamed (all : List Operator) (ops : List ℕ) (names : List (List ℕ)) (i : ℕ) : Type 0 where
  pub within : i < length ops
  pub here : ¬ IsStepNamed all ops names i
  pub before : (k : ℕ) → k < i → IsStepNamed all ops names k

-- the cost line is that of a plan of this cost
abbrev pub IsCostLine : TaskParts → ReadBlock → ℕ → Type 0
IsCostLine task b cost = (b.cost ≡ cost) × (b.unit ≡ is_unit task)

-- the first of the blocks that counts as one with the plan
pub record IsFirstSame (mode : Mode) (blocks : List ReadBlock) (p : List ℕ) (i : ℕ) : Type 0 where
  pub here : IsSomeAnd (slice_get blocks i) (λ b. Same mode b.ops p)
  pub before : All (λ b. ¬ Same mode b.ops p) (take i blocks)

-- the last of the blocks costs more
abbrev pub IsCheaper : List ReadBlock → ReadBlock → Type 0
IsCheaper blocks b = IsSomeAnd (slice_get blocks (length blocks - 1)) (λ last. b.cost < last.cost)

-- the state at this place stands at an earlier one too
abbrev pub Recurs : List (List ℕ) → ℕ → Type 0
Recurs passed i = Contains (take i passed) (slice_index_or passed i [])

-- the first place of which that is so
pub record IsFirstReturn (passed : List (List ℕ)) (i : ℕ) : Type 0 where
  pub within : i < length passed
  pub here : Recurs passed i
  pub before : (k : ℕ) → k < i → ¬ Recurs passed k

-- the state after this step is the first that the run of the plan was in before
abbrev pub IsFirstLoop : TaskParts → List ℕ → ℕ → Type 0
IsFirstLoop task p step = (s : List ℕ) × (passed : List (List ℕ)) × IsInitial task s × Trace task s p passed × IsFirstReturn passed step

-- What a reason says of a block, given those before it; steps and blocks count from 1.
abbrev pub Says : TaskParts → Mode → List ReadBlock → ReadBlock → Why → Type 0
Says task mode blocks b (NoSuchOperator step) = (1 ≤ step) × IsTooLarge (length task.operators) b.ops (step - 1)
Says task mode blocks b (WrongName step) = (1 ≤ step) × IsMisnamed task.operators b.ops b.names (step - 1)
Says task mode blocks b (StopsAt step) = (1 ≤ step) × Stops task b.ops (step - 1)
Says task mode blocks b MissesGoal = Misses task b.ops
Says task mode blocks b (WrongCost cost) = (cost ≡ cost_of task b.ops) × ¬ IsCostLine task b cost
Says task mode blocks b (Repeats earlier) = (1 ≤ earlier) × IsFirstSame mode blocks b.ops (earlier - 1)
Says task mode blocks b Cheaper = IsCheaper blocks b
Says task mode blocks b (Loops step) = (mode ≡ Loopless) × IsFirstLoop task b.ops step

-- the place of a reason in their order
abbrev pub rank : Why → ℕ
rank (NoSuchOperator step) = 0
rank (WrongName step) = 1
rank (StopsAt step) = 2
rank MissesGoal = 3
rank (WrongCost cost) = 4
rank (Repeats earlier) = 5
rank Cheaper = 6
rank (Loops step) = 7

-- The reason is true of the block, and none that comes before it in the order is.
abbrev pub IsFirstReason : TaskParts → Mode → List ReadBlock → ReadBlock → Why → Type 0
IsFirstReason task mode blocks b why = Says task mode blocks b why × ((other : Why) → rank other < rank why → ¬ Says task mode blocks b other)

-- The block at this place, counted from 0, fails, and the reason is the first that is true of it.
abbrev pub Fails : TaskParts → Mode → List ReadBlock → ℕ → Why → Type 0
Fails task mode blocks i why = IsSomeAnd (slice_get blocks i) (λ b. IsFirstReason task mode (take i blocks) b why)

-- Good: no block fails. Bad: the named one does, and none before it.
abbrev pub Finds : TaskParts → Mode → List ReadBlock → Checked → Type 0
Finds task mode blocks (Good n) = (n ≡ length blocks) × ((i : ℕ) (why : Why) → ¬ Fails task mode blocks i why)
Finds task mode blocks (Bad plan why) = (1 ≤ plan) × Fails task mode blocks (plan - 1) why × ((i : ℕ) (other : Why) → i < plan - 1 → ¬ Fails task mode blocks i other)

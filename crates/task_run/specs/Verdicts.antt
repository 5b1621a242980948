-- What a run of a plan comes to.
use Rattle.std.specs.Prelude.{◌≡◌, ℕ, ◌-◌, ◌<◌, ◌≤◌, List, length, take, slice_index, All}
use Rattle.symk_task.specs.declared.parts.TaskParts.{TaskParts}
use Rattle.symk_task.specs.Steps.{Holds, Applies}
use Rattle.symk_task.specs.Plans.{Runs, IsInitial, IsPlan, cost_of}
use Rattle.task_run.specs.declared.verdict.Verdict.{Verdict}
use Rattle.task_run.specs.declared.verdict.Verdict.TheVariants.{NoSuchOperator, StopsAt, MissesGoal, Reaches}

abbrev pub AreOperators : TaskParts → List ℕ → Type 0
AreOperators task p = All (λ a. a < length task.operators) p

-- the number at this place is too large, and none before it is
pub record IsTooLarge (operators : ℕ) (p : List ℕ) (i : ℕ) : Type 0 where
  pub within : i < length p
  pub here : operators ≤ slice_index p i
  pub before : (k : ℕ) → k < i → slice_index p k < operators

-- the operators before this place can be applied one after the other, and then that at it cannot
pub record Stops (task : TaskParts) (p : List ℕ) (i : ℕ) : Type 0 where
  pub operators : AreOperators task p
  pub within : i < length p
  pub s : List ℕ
  pub t : List ℕ
  pub initial : IsInitial task s
  pub runs : Runs task s (take i p) t
  pub stuck : ¬ Applies task t (slice_index p i)

-- the operators can be applied one after the other, and the goal does not hold at the end
pub record Misses (task : TaskParts) (p : List ℕ) : Type 0 where
  pub s : List ℕ
  pub t : List ℕ
  pub initial : IsInitial task s
  pub runs : Runs task s p t
  pub missed : ¬ All (Holds task t) task.goal

-- The verdict is true of the plan; steps count from 1.
abbrev pub Judges : TaskParts → List ℕ → Verdict → Type 0
Judges task p (NoSuchOperator step) = (1 ≤ step) × IsTooLarge (length task.operators) p (step - 1)
Judges task p (StopsAt step) = (1 ≤ step) × Stops task p (step - 1)
Judges task p MissesGoal = Misses task p
Judges task p (Reaches cost) = IsPlan task p × (cost ≡ cost_of task p)

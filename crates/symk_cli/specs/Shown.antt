-- The summary of a demonstration.
use Rattle.std.specs.Prelude.{◌≡◌, ℕ, ◌++◌, length, codes, decimal}
use Rattle.symk_io.specs.View.{Bytes}
use Rattle.symk_task.specs.declared.parts.TaskParts.{TaskParts}
use Rattle.task_gen.specs.Switches.{switches}
use Rattle.plan_run.specs.Costs.{HasPlans}
use Rattle.run_status.specs.declared.status.Status.{Status}
use Rattle.run_status.specs.declared.status.Status.TheVariants.{Shown}

-- how many variables, operators and rules there are
unfoldable pub counts_line : ℕ → ℕ → ℕ → ℕ → Bytes
counts_line number variables operators rules =
    (codes "switches " ++ decimal number) ++ (codes ": variables " ++ decimal variables) ++ (codes " operators " ++ decimal operators) ++ (codes " rules " ++ decimal rules) ++ codes "\n"

-- that line for a task
abbrev pub counts_of : ℕ → TaskParts → Bytes
counts_of number task = counts_line number (length task.variables) (length task.operators) (length task.rules)

-- how many plans there are, and what they cost
unfoldable pub costs_line : ℕ → ℕ → ℕ → ℕ → Bytes
costs_line many cheapest dearest total =
    (codes "plans " ++ decimal many) ++ (codes ": cheapest " ++ decimal cheapest) ++ (codes " dearest " ++ decimal dearest) ++ (codes " total " ++ decimal total) ++ codes "\n"

unfoldable pub reached_line : ℕ → Bytes
reached_line many = (codes "end reached " ++ decimal many) ++ codes "\n"

-- the three lines of 20 plans of a task
abbrev pub lines_of : ℕ → TaskParts → ℕ → ℕ → ℕ → Bytes
lines_of number task cheapest dearest total =
    counts_of number task ++ costs_line 20 cheapest dearest total ++ reached_line 20

-- The text is the summary of 20 plans of the task of so many switches.
pub record Summary (number : ℕ) (out : Bytes) : Type 0 where
  pub cheapest : ℕ
  pub dearest : ℕ
  pub total : ℕ
  pub plans : HasPlans (switches number) cheapest dearest total
  pub text : out ≡ lines_of number (switches number) cheapest dearest total

-- a demonstration ends with its summary
abbrev pub IsSummary : ℕ → Status → Bytes → Type 0
IsSummary number Shown out = Summary number out
IsSummary number result out = ⊥

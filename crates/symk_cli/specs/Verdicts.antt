-- The verdict on a list of plans, and the text that says so.
use Rattle.std.specs.Prelude.{◌≡◌, ℕ, ◌-◌, ◌++◌, List, codes, decimal}
use Rattle.symk_io.specs.View.{Bytes}
use Rattle.symk_task.specs.declared.parts.Mode.{Mode}
use Rattle.symk_task.specs.declared.parts.TaskParts.{TaskParts}
use Rattle.plan_out.specs.declared.blocks.ReadBlock.{ReadBlock}
use Rattle.plan_out.specs.declared.check.Why.{Why}
use Rattle.plan_out.specs.declared.check.Why.TheVariants.{NoSuchOperator, WrongName, StopsAt, MissesGoal, WrongCost, Repeats, Cheaper, Loops}
use Rattle.plan_out.specs.declared.check.Checked.{Checked}
use Rattle.plan_out.specs.declared.check.Checked.TheVariants as checked
use Rattle.plan_out.specs.Fails.{Finds}
use Rattle.run_status.specs.declared.status.Status.{Status}
use Rattle.run_status.specs.declared.status.Status.TheVariants as status

-- why the block of this number fails
unfoldable pub why_text : ℕ → Why → Bytes
why_text plan (NoSuchOperator step) = codes "no such operator at step " ++ decimal step
why_text plan (WrongName step) = codes "other name at step " ++ decimal step
why_text plan (StopsAt step) = codes "does not apply at step " ++ decimal step
why_text plan MissesGoal = codes "misses the goal"
why_text plan (WrongCost cost) = codes "costs " ++ decimal cost
why_text plan (Repeats earlier) = codes "repeats plan " ++ decimal earlier
why_text plan Cheaper = codes "cheaper than plan " ++ decimal (plan - 1)
why_text plan (Loops step) = codes "loops at step " ++ decimal step

unfoldable pub verdict_text : Checked → Bytes
verdict_text (checked.Good n) = codes "good " ++ decimal n ++ codes "\n"
verdict_text (checked.Bad plan why) = codes "bad plan " ++ decimal plan ++ codes ": " ++ why_text plan why ++ codes "\n"

abbrev pub verdict_status : Checked → Status
verdict_status (checked.Good n) = status.Good
verdict_status (checked.Bad plan why) = status.BadList

-- The text says what is found of the blocks: that all are good, or the first that fails and why.
pub record Verdict (task : TaskParts) (mode : Mode) (blocks : List ReadBlock) (result : Status) (out : Bytes) : Type 0 where
  pub found : Checked
  pub finds : Finds task mode blocks found
  pub says : result ≡ verdict_status found
  pub text : out ≡ verdict_text found

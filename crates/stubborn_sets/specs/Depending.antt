-- What derived variables depend on.
use Rattle.std.specs.Prelude.{◌≡◌, ℕ, ◌<◌, Bool, false, not, count_by, IsTrue, IsFalse, List, slice_index_or, All}
use Rattle.symk_task.specs.declared.parts.Effect.{Effect}
use Rattle.symk_task.specs.declared.parts.Rule.{Rule}
use Rattle.symk_task.specs.declared.parts.TaskParts.{TaskParts}
use Rattle.task_run.specs.Values.{AreBelow}

-- whether the thing of this number is marked
abbrev pub has_mark : List Bool → ℕ → Bool
has_mark marks a = slice_index_or marks a false

-- what was marked is marked still
abbrev pub GrowsMarks : List Bool → List Bool → Type 0
GrowsMarks old new = (a : ℕ) → IsTrue (has_mark old a) → IsTrue (has_mark new a)

-- how many are not marked
abbrev pub left : List Bool → ℕ
left marks = count_by not marks

-- Marks were added if the test says so: fewer are left then, else the same are there.
pub record Spreads (old new : List Bool) (more : Bool) : Type 0 where
  pub grows : GrowsMarks old new
  pub none : IsFalse more → new ≡ old
  pub some : IsTrue more → left new < left old

-- the rule is for one of n variables, and its conditions are on such
abbrev pub IsRuleBelow : ℕ → Rule → Type 0
IsRuleBelow n rule = (rule.var < n) × AreBelow n rule.conds

-- if the rule is for a marked variable, each of its conditions is on one
abbrev pub StaysIn : List Bool → Rule → Type 0
StaysIn marks rule = IsTrue (has_mark marks rule.var) → All (λ cond. IsTrue (has_mark marks cond.var)) rule.conds

-- no rule leads out of the marked variables
abbrev pub IsShutByRules : List Rule → List Bool → Type 0
IsShutByRules rules marks = All (StaysIn marks) rules

-- no effect is on a marked variable
abbrev pub WritesOff : List Bool → List Effect → Type 0
WritesOff marks effects = All (λ effect. ¬ IsTrue (has_mark marks effect.var)) effects

-- no effect is on what the variable depends on: there are variables, this one among them, out of which no rule leads, and no effect is on one of them
abbrev pub LeavesAlone : TaskParts → ℕ → List Effect → Type 0
LeavesAlone task var effects = (marks : List Bool) × IsTrue (has_mark marks var) × IsShutByRules task.rules marks × WritesOff marks effects

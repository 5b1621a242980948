-- What is found of a rule.
use Rattle.std.specs.Prelude.{◌≡◌, ℕ, ◌<◌, ◌≤◌, List, length, slice_index_or}
use Rattle.symk_task.specs.declared.parts.Fact.{Fact}
use Rattle.symk_task.specs.declared.parts.Rule.{Rule}
use Rattle.symk_task.specs.declared.parts.TaskParts.{TaskParts}
use Rattle.task_run.specs.Values.{HasValue}
use Rattle.task_run.specs.Layer.{IsOpenRule}
use Rattle.task_run.specs.declared.rule_status.RuleStatus.{RuleStatus}
use Rattle.task_run.specs.declared.rule_status.RuleStatus.TheVariants.{Done, Ready, WaitsFor}

-- The facts from one place up to the other have their values.
abbrev pub HaveBetween : List ℕ → List Fact → ℕ → ℕ → Type 0
HaveBetween values facts from end = (k : ℕ) (d : Fact) → from ≤ k → k < end → HasValue values (slice_index_or facts k d)

-- the first fact from a place on that does not have its value
pub record FirstUnmet (values : List ℕ) (facts : List Fact) (from place : ℕ) : Type 0 where
  pub start : from ≤ place
  pub within : place < length facts
  pub unmet : (d : Fact) → ¬ HasValue values (slice_index_or facts place d)
  pub before : HaveBetween values facts from place

-- the first unmet condition, and its variable
pub record LacksCondition (task : TaskParts) (layer : ℕ) (values : List ℕ) (rule : Rule) (from place var : ℕ) : Type 0 where
  pub opened : IsOpenRule task layer values rule
  pub first : FirstUnmet values rule.conds from place
  pub on : (d : Fact) → (slice_index_or rule.conds place d).var ≡ var

abbrev pub FindsRuleStatus : TaskParts → ℕ → List ℕ → Rule → ℕ → RuleStatus → Type 0
FindsRuleStatus task layer values rule from Done = ¬ IsOpenRule task layer values rule
FindsRuleStatus task layer values rule from Ready = IsOpenRule task layer values rule × HaveBetween values rule.conds from (length rule.conds)
FindsRuleStatus task layer values rule from (WaitsFor place var) = LacksCondition task layer values rule from place var

-- What drafts state.
use Rattle.std.specs.Prelude.{ℕ, List, [], map, replicate}
use Rattle.symk_task.specs.declared.parts.Fact.{Fact}
use Rattle.symk_task.specs.declared.parts.Variable.{Variable}
use Rattle.symk_task.specs.declared.parts.Effect.{Effect}
use Rattle.symk_task.specs.declared.parts.Operator.{Operator}
use Rattle.symk_task.specs.declared.parts.Rule.{Rule}
use Rattle.symk_task.specs.declared.parts.TaskParts.{TaskParts}
use Rattle.small_tasks.specs.declared.drafts.VariableDraft.{VariableDraft}
use Rattle.small_tasks.specs.declared.drafts.EffectDraft.{EffectDraft}
use Rattle.small_tasks.specs.declared.drafts.OperatorDraft.{OperatorDraft}
use Rattle.small_tasks.specs.declared.drafts.RuleDraft.{RuleDraft}
use Rattle.small_tasks.specs.declared.drafts.Draft.{Draft}

-- that the first number's variable has the second number's value
abbrev pub fact_of : ℕ × ℕ → Fact
fact_of row = record { var = row.0; val = row.1 }

abbrev pub facts_of : List (ℕ × ℕ) → List Fact
facts_of rows = map fact_of rows

-- its name and those of its values are empty
abbrev pub drafted_variable : VariableDraft → Variable
drafted_variable draft = record { name = []; layer = draft.layer; values = replicate draft.values [] }

abbrev pub drafted_effect : EffectDraft → Effect
drafted_effect draft = record { conds = facts_of draft.conds.now; var = draft.var; pre = draft.pre; post = draft.post }

-- asks for no fact beside those of its effects
abbrev pub drafted_operator : OperatorDraft → Operator
drafted_operator draft = record { name = draft.name.now; prevail = []; effects = map drafted_effect draft.effects.now; cost = draft.cost }

abbrev pub drafted_rule : RuleDraft → Rule
drafted_rule draft = record { conds = facts_of draft.conds.now; var = draft.var; new = draft.new }

-- without groups
abbrev pub drafted_task : Draft → TaskParts
drafted_task draft = record {
  metric = draft.metric;
  variables = map drafted_variable draft.variables.now;
  mutexes = [];
  initial = draft.initial.now;
  goal = facts_of draft.goal.now;
  operators = map drafted_operator draft.operators.now;
  rules = map drafted_rule draft.rules.now;
}

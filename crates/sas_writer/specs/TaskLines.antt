-- The lines of a task file in its canonical spelling, section by section.
use Rattle.std.specs.Prelude.{ℕ, ◌-◌, ◌^◌, ◌<◌, All, List, [], ◌∷◌, ◌++◌, length, map, codes, decimal, flat_map}
use Rattle.symk_task.specs.declared.parts.Fact.{Fact}
use Rattle.symk_task.specs.declared.parts.Variable.{Variable}
use Rattle.symk_task.specs.declared.parts.Operator.{Operator}
use Rattle.symk_task.specs.declared.parts.Rule.{Rule}
use Rattle.symk_task.specs.declared.parts.TaskParts.{TaskParts}
use Rattle.sas_writer.specs.Spelling.{text_of, name_line, or_minus_one, fact_line, effect_line}

unfoldable pub head_lines : ℕ → List (List ℕ)
head_lines metric =
    codes "begin_version" ∷ codes "3" ∷ codes "end_version" ∷ codes "begin_metric" ∷ decimal metric ∷ codes "end_metric" ∷ []

-- how many facts, and a line for each
unfoldable pub facts_lines : List Fact → List (List ℕ)
facts_lines facts = decimal (length facts) ∷ map fact_line facts

unfoldable pub variable_lines : Variable → List (List ℕ)
variable_lines v =
    codes "begin_variable" ∷ name_line v.name ∷ or_minus_one v.layer ∷ decimal (length v.values) ∷ map name_line v.values
    ++ codes "end_variable" ∷ []

unfoldable pub variables_lines : List Variable → List (List ℕ)
variables_lines variables = decimal (length variables) ∷ flat_map variable_lines variables

unfoldable pub mutex_lines : List Fact → List (List ℕ)
mutex_lines facts = codes "begin_mutex_group" ∷ facts_lines facts ++ codes "end_mutex_group" ∷ []

unfoldable pub mutexes_lines : List (List Fact) → List (List ℕ)
mutexes_lines mutexes = decimal (length mutexes) ∷ flat_map mutex_lines mutexes

unfoldable pub state_lines : List ℕ → List (List ℕ)
state_lines values = codes "begin_state" ∷ map decimal values ++ codes "end_state" ∷ []

unfoldable pub goal_lines : List Fact → List (List ℕ)
goal_lines facts = codes "begin_goal" ∷ facts_lines facts ++ codes "end_goal" ∷ []

-- the cost is the stated one, whatever the metric
unfoldable pub operator_lines : Operator → List (List ℕ)
operator_lines operator =
    codes "begin_operator" ∷ name_line operator.name ∷ facts_lines operator.prevail
    ++ decimal (length operator.effects) ∷ map effect_line operator.effects
    ++ decimal operator.cost ∷ [] ++ codes "end_operator" ∷ []

-- each cost is a number that can be read back
abbrev pub HasSmallCosts : List Operator → Type 0
HasSmallCosts = All (λ operator. operator.cost < 2 ^ 64)

unfoldable pub operators_lines : List Operator → List (List ℕ)
operators_lines operators = decimal (length operators) ∷ flat_map operator_lines operators

-- the variable, the value that it had, the value that it gets
unfoldable pub head_line : Rule → List ℕ
head_line rule = decimal rule.var ++ 32 ∷ decimal (1 - rule.new) ++ 32 ∷ decimal rule.new

unfoldable pub rule_lines : Rule → List (List ℕ)
rule_lines rule = codes "begin_rule" ∷ facts_lines rule.conds ++ head_line rule ∷ [] ++ codes "end_rule" ∷ []

unfoldable pub rules_lines : List Rule → List (List ℕ)
rules_lines rules = decimal (length rules) ∷ flat_map rule_lines rules

unfoldable pub task_lines : TaskParts → List (List ℕ)
task_lines task =
    head_lines task.metric ++ variables_lines task.variables ++ mutexes_lines task.mutexes ++ state_lines task.initial
    ++ goal_lines task.goal ++ operators_lines task.operators ++ rules_lines task.rules

-- The canonical spelling of a task.
abbrev pub task_text : TaskParts → List ℕ
task_text task = text_of (task_lines task)

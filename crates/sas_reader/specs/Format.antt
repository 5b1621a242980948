-- The rows of a task file.
use Rattle.std.specs.Prelude.{ℕ, ◌-◌, List, [], ◌∷◌, ◌++◌, length, codes, Option, Some}
use Rattle.std.specs.List.{flat_map}
use Rattle.sas_reader.specs.declared.fault.Shape.{Shape}
use Rattle.sas_reader.specs.declared.fault.Shape.TheVariants as shape
use Rattle.symk_task.specs.declared.parts.Fact.{Fact}
use Rattle.symk_task.specs.declared.parts.Variable.{Variable}
use Rattle.symk_task.specs.declared.parts.Effect.{Effect}
use Rattle.symk_task.specs.declared.parts.Operator.{Operator}
use Rattle.symk_task.specs.declared.parts.Rule.{Rule}
use Rattle.symk_task.specs.declared.parts.TaskParts.{TaskParts}
use Rattle.symk_task.specs.Fits.{Fits}
use Rattle.line_grammar.specs.Rows.{TextOf, Wanted}
use Rattle.sas_reader.specs.Numbers.{is_blank}
use Rattle.sas_reader.specs.Rows.{Row, word, name, numbers, one_number, shape_of, IsSpelled}

abbrev pub header_rows : ℕ → List Row
header_rows metric =
    word shape.BeginVersion (codes "begin_version") ∷ one_number shape.Three 3 ∷ word shape.EndVersion (codes "end_version") ∷
    word shape.BeginMetric (codes "begin_metric") ∷ one_number shape.Metric metric ∷ word shape.EndMetric (codes "end_metric") ∷ []

abbrev pub name_rows : List ℕ → List Row
name_rows n = name n ∷ []

abbrev pub variable_rows : Variable → List Row
variable_rows v =
    word shape.BeginVariable (codes "begin_variable") ∷ name v.name ∷ numbers shape.Layer (v.layer ∷ []) ∷
    (one_number shape.Range (length v.values) ∷ flat_map name_rows v.values) ++ word shape.EndVariable (codes "end_variable") ∷ []

-- so many, and then each
abbrev pub counted_rows : {X : Type 0} → (X → List Row) → List X → List Row
counted_rows rows xs = one_number shape.Count (length xs) ∷ flat_map rows xs

abbrev pub fact_numbers : Fact → List (Option ℕ)
fact_numbers fact = Some fact.var ∷ Some fact.val ∷ []

abbrev pub fact_rows : Fact → List Row
fact_rows fact = numbers shape.Fact (fact_numbers fact) ∷ []

abbrev pub group_rows : List Fact → List Row
group_rows facts = word shape.BeginMutex (codes "begin_mutex_group") ∷ counted_rows fact_rows facts ++ word shape.EndMutex (codes "end_mutex_group") ∷ []

abbrev pub value_rows : ℕ → List Row
value_rows value = one_number shape.Value value ∷ []

abbrev pub state_rows : List ℕ → List Row
state_rows values = word shape.BeginState (codes "begin_state") ∷ flat_map value_rows values ++ word shape.EndState (codes "end_state") ∷ []

abbrev pub goal_rows : List Fact → List Row
goal_rows facts = word shape.BeginGoal (codes "begin_goal") ∷ counted_rows fact_rows facts ++ word shape.EndGoal (codes "end_goal") ∷ []

-- n, n conditions, and what the effect changes
abbrev pub effect_numbers : Effect → List (Option ℕ)
effect_numbers e = Some (length e.conds) ∷ flat_map fact_numbers e.conds ++ Some e.var ∷ e.pre ∷ Some e.post ∷ []

abbrev pub effect_rows : Effect → List Row
effect_rows e = numbers shape.Effect (effect_numbers e) ∷ []

abbrev pub operator_rows : Operator → List Row
operator_rows o =
    word shape.BeginOperator (codes "begin_operator") ∷ name o.name ∷ counted_rows fact_rows o.prevail ++ (counted_rows effect_rows o.effects ++
    (one_number shape.Cost o.cost ∷ word shape.EndOperator (codes "end_operator") ∷ []))

-- a rule's variable, its old value and its new one
abbrev pub head_numbers : Rule → List (Option ℕ)
head_numbers rule = Some rule.var ∷ Some (1 - rule.new) ∷ Some rule.new ∷ []

abbrev pub rule_rows : Rule → List Row
rule_rows rule =
    word shape.BeginRule (codes "begin_rule") ∷ counted_rows fact_rows rule.conds ++
    (numbers shape.Head (head_numbers rule) ∷ word shape.EndRule (codes "end_rule") ∷ [])

-- the rows of a file
abbrev pub file_rows : TaskParts → List Row
file_rows task =
    header_rows task.metric ++ (counted_rows variable_rows task.variables ++ (counted_rows group_rows task.mutexes ++ (state_rows task.initial ++
    (goal_rows task.goal ++ (counted_rows operator_rows task.operators ++ counted_rows rule_rows task.rules)))))

-- The lines are those of a file that states this task.
abbrev pub IsFileOf : List (List ℕ) → TaskParts → Type 0
IsFileOf = TextOf IsSpelled file_rows Fits is_blank

-- in each file that begins with these lines, the next line has this shape
abbrev pub Wants : List (List ℕ) → Shape → Type 0
Wants = Wanted shape_of shape.Blank file_rows IsFileOf

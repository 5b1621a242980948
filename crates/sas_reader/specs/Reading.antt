-- Reading a task file from the first line on, up to the first line that is not as it should be.
use Rattle.std.specs.Prelude.{ℕ, zero, suc, ◌+◌, ◌-◌, ◌==◌, ◌&&◌, ◌||◌, nat_lt, nat_le, if◌then◌else◌, Bool, true, false, List, [], ◌∷◌, length, slice_get, slice_index, codes, Option, Some, None}
use Rattle.std.specs.Option.{option_map, option_map_or, option_and_then}
use Rattle.std.specs.List.{list_any, list_all}
use Rattle.std.specs.Str.{bytes_eq}
use Rattle.sas_reader.specs.declared.fault.Shape.{Shape}
use Rattle.sas_reader.specs.declared.fault.Shape.TheVariants as shape
use Rattle.symk_task.specs.declared.parts.Fact.{Fact}
use Rattle.symk_task.specs.declared.parts.Variable.{Variable}
use Rattle.symk_task.specs.declared.parts.Effect.{Effect}
use Rattle.symk_task.specs.declared.parts.Operator.{Operator}
use Rattle.symk_task.specs.declared.parts.Rule.{Rule}
use Rattle.symk_task.specs.declared.parts.TaskParts.{TaskParts}
use Rattle.symk_task.specs.Variables.{range, width, is_base}
use Rattle.symk_task.specs.Fits.{bits_of}
use Rattle.line_grammar.specs.Reading.{Reading, row_at, many_at, both_at, made_at, after_at, before_at, counted_at, whole_at}
use Rattle.sas_reader.specs.Numbers.{is_blank, numbers_of, only_number, two_numbers, three_numbers}

-- The tests of single lines.

abbrev pub exactly : List ℕ → List ℕ → Option (Unit {0})
exactly bytes line = if bytes_eq line bytes then Some tt else None

-- any line, which has no LF
abbrev pub a_name : List ℕ → Option (List ℕ)
a_name line = if list_any (λ byte. byte == 10) line then None else Some line

abbrev pub if_passes : (ℕ → Bool) → Option ℕ → Option ℕ
if_passes p None = None
if_passes p (Some n) = if p n then Some n else None

abbrev pub number_that : (ℕ → Bool) → List ℕ → Option ℕ
number_that p line = option_and_then (λ n. if_passes p n) (option_and_then only_number (numbers_of line))

abbrev pub three : List ℕ → Option (Unit {0})
three line = option_map (λ _. tt) (number_that (λ n. n == 3) line)

abbrev pub count_to : ℕ → List ℕ → Option ℕ
count_to most = number_that (λ n. nat_le n most)

-- a layer, None being -1
abbrev pub if_layer : Option ℕ → Option (Option ℕ)
if_layer None = Some None
if_layer (Some n) = if nat_le n 65535 then Some (Some n) else None

abbrev pub layer_in : List ℕ → Option (Option ℕ)
layer_in line = option_and_then if_layer (option_and_then only_number (numbers_of line))

-- a derived variable has two values; a base one so many that the bits of the state, with those used before it, are not too many
abbrev pub may_have : Option ℕ → ℕ → ℕ → Bool
may_have (Some layer) used n = n == 2
may_have None used n = nat_le 1 n && nat_le n 65536 && nat_le (used + width n) 65536

abbrev pub in_range : List Variable → ℕ → ℕ → Bool
in_range variables var val = option_map_or (λ v. nat_lt val (range v)) (slice_get variables var) false

abbrev pub fact_in : List Variable → List ℕ → Option Fact
fact_in variables line = option_and_then (λ x. if in_range variables x.0 x.1 then Some (record { var = x.0; val = x.1 }) else None) (option_and_then two_numbers (numbers_of line))

-- how many values the variable at a place has, or 1 where none is there
abbrev pub range_at : List Variable → ℕ → ℕ
range_at variables var = option_map_or range (slice_get variables var) 1

-- The reading of the sections.

abbrev pub kept : {T X : Type 0} → T → X → T
kept state _ = state

abbrev pub name_at : Unit {0} → Reading Shape (List ℕ)
name_at _ = row_at shape.Name a_name

unfoldable pub header_at : Reading Shape ℕ
header_at =
    after_at shape.BeginVersion (exactly (codes "begin_version")) (after_at shape.Three three (after_at shape.EndVersion (exactly (codes "end_version"))
    (after_at shape.BeginMetric (exactly (codes "begin_metric")) (before_at (row_at shape.Metric (count_to 1)) shape.EndMetric (exactly (codes "end_metric"))))))

abbrev pub variable_of : List ℕ × (Option ℕ × List (List ℕ)) → Variable
variable_of parts = record { name = parts.0; layer = parts.1.0; values = parts.1.1 }

abbrev pub values_at : Option ℕ → ℕ → Reading Shape (List (List ℕ))
values_at layer used = counted_at shape.Range (number_that (may_have layer used)) name_at kept tt

unfoldable pub variable_at : ℕ → Reading Shape Variable
variable_at used = made_at variable_of (after_at shape.BeginVariable (exactly (codes "begin_variable"))
    (both_at (name_at tt) (λ _. both_at (row_at shape.Layer layer_in) (λ layer. before_at (values_at layer used) shape.EndVariable (exactly (codes "end_variable"))))))

abbrev pub used_after : ℕ → Variable → ℕ
used_after used v = used + bits_of v

abbrev pub variables_at : Reading Shape (List Variable)
variables_at = counted_at shape.Count (count_to 65536) variable_at used_after 0

abbrev pub fact_at : List Variable → Unit {0} → Reading Shape Fact
fact_at variables _ = row_at shape.Fact (fact_in variables)

-- how many facts there can be
abbrev pub most_facts : List Variable → ℕ
most_facts variables = if length variables == 0 then 0 else 65536

abbrev pub facts_at : List Variable → Reading Shape (List Fact)
facts_at variables = counted_at shape.Count (count_to (most_facts variables)) (fact_at variables) kept tt

unfoldable pub group_at : List Variable → Unit {0} → Reading Shape (List Fact)
group_at variables _ = after_at shape.BeginMutex (exactly (codes "begin_mutex_group")) (before_at (facts_at variables) shape.EndMutex (exactly (codes "end_mutex_group")))

abbrev pub groups_at : List Variable → Reading Shape (List (List Fact))
groups_at variables = counted_at shape.Count (count_to 1000000) (group_at variables) kept tt

abbrev pub initial_value_at : List Variable → ℕ → Reading Shape ℕ
initial_value_at variables var = row_at shape.Value (number_that (λ n. nat_lt n (range_at variables var)))

abbrev pub next_place : ℕ → ℕ → ℕ
next_place var _ = var + 1

abbrev pub initial_at : List Variable → Reading Shape (List ℕ)
initial_at variables = many_at (initial_value_at variables) next_place (length variables) 0

unfoldable pub state_at : List Variable → Reading Shape (List ℕ)
state_at variables = after_at shape.BeginState (exactly (codes "begin_state")) (before_at (initial_at variables) shape.EndState (exactly (codes "end_state")))

unfoldable pub goal_at : List Variable → Reading Shape (List Fact)
goal_at variables = after_at shape.BeginGoal (exactly (codes "begin_goal")) (before_at (facts_at variables) shape.EndGoal (exactly (codes "end_goal")))

-- Effects.

abbrev pub is_base_at : List Variable → ℕ → Bool
is_base_at variables var = option_map_or is_base (slice_get variables var) false

abbrev pub allows : List Variable → ℕ → Option ℕ → Bool
allows variables var None = true
allows variables var (Some val) = in_range variables var val

-- the first fact, in range, and the numbers after it
abbrev pub fact_first : List Variable → List (Option ℕ) → Option (Fact × List (Option ℕ))
fact_first variables (Some var ∷ Some val ∷ ns) = if in_range variables var val then Some (record { var = var; val = val }, ns) else None
fact_first variables _ = None

abbrev pub with_fact : {A : Type 0} → Fact → Option (List Fact × A) → Option (List Fact × A)
with_fact fact others = option_map (λ x. (fact ∷ x.0, x.1)) others

-- so many conditions, and the numbers after them
unfoldable pub conds_of : List Variable → ℕ → List (Option ℕ) → Option (List Fact × List (Option ℕ))
conds_of variables zero ns = Some ([], ns)
conds_of variables (suc n) ns = option_and_then (λ x. with_fact x.0 (conds_of variables n x.1)) (fact_first variables ns)

abbrev pub counted_conds : List Variable → List (Option ℕ) → Option (List Fact × List (Option ℕ))
counted_conds variables (Some n ∷ ns) = if nat_le n 65536 then conds_of variables n ns else None
counted_conds variables _ = None

-- a variable, the value that is asked for, where one is, and the new value
abbrev pub ending_numbers : List (Option ℕ) → Option (ℕ × Option ℕ × ℕ)
ending_numbers (Some var ∷ pre ∷ Some post ∷ []) = Some (var, pre, post)
ending_numbers _ = None

abbrev pub ending_that : List Variable → ℕ × Option ℕ × ℕ → Option (ℕ × Option ℕ × ℕ)
ending_that variables x = if is_base_at variables x.0 && allows variables x.0 x.1 && in_range variables x.0 x.2 then Some x else None

abbrev pub ending_of : List Variable → List (Option ℕ) → Option (ℕ × Option ℕ × ℕ)
ending_of variables ns = option_and_then (ending_that variables) (ending_numbers ns)

abbrev pub effect_with : List Fact → ℕ × Option ℕ × ℕ → Effect
effect_with conds e = record { conds = conds; var = e.0; pre = e.1; post = e.2 }

abbrev pub effect_after : List Variable → List Fact × List (Option ℕ) → Option Effect
effect_after variables x = option_map (effect_with x.0) (ending_of variables x.1)

abbrev pub effect_of : List Variable → List (Option ℕ) → Option Effect
effect_of variables ns = option_and_then (effect_after variables) (counted_conds variables ns)

abbrev pub effect_in : List Variable → List ℕ → Option Effect
effect_in variables line = option_and_then (effect_of variables) (numbers_of line)

abbrev pub effect_at : List Variable → Unit {0} → Reading Shape Effect
effect_at variables _ = row_at shape.Effect (effect_in variables)

-- how many effects there can be
abbrev pub most_effects : List Variable → ℕ
most_effects variables = if list_any is_base variables then 65536 else 0

abbrev pub operator_of : List ℕ × (List Fact × (List Effect × ℕ)) → Operator
operator_of parts = record { name = parts.0; prevail = parts.1.0; effects = parts.1.1.0; cost = parts.1.1.1 }

abbrev pub effects_at : List Variable → ℕ → Reading Shape (List Effect)
effects_at variables most = counted_at shape.Count (count_to most) (effect_at variables) kept tt

abbrev pub operator_cost_at : Reading Shape ℕ
operator_cost_at = row_at shape.Cost (number_that (λ _. true))

unfoldable pub operator_at : List Variable → ℕ → Unit {0} → Reading Shape Operator
operator_at variables most _ = made_at operator_of (after_at shape.BeginOperator (exactly (codes "begin_operator"))
    (both_at (name_at tt) (λ _. both_at (facts_at variables)
    (λ _. both_at (effects_at variables most) (λ _. before_at operator_cost_at shape.EndOperator
    (exactly (codes "end_operator")))))))

abbrev pub operators_at : List Variable → Reading Shape (List Operator)
operators_at variables = counted_at shape.Count (count_to 1000000) (operator_at variables (most_effects variables)) kept tt

-- Rules.

-- a condition that a counting rule for a layer may have
abbrev pub may_stand : List Variable → List ℕ → ℕ → Fact → Bool
may_stand variables initial layer fact = option_map_or (λ v. option_map_or (λ below. nat_lt below layer || (below == layer && fact.val == 1 - slice_index initial fact.var)) v.layer true) (slice_get variables fact.var) false

-- the new value is in range, and where it isn't the default value each condition may stand there
abbrev pub heads : List Variable → List ℕ → List Fact → ℕ → ℕ → ℕ → ℕ → Bool
heads variables initial conds layer var old new = nat_lt new 2 && old == 1 - new && (new == slice_index initial var || list_all (may_stand variables initial layer) conds)

abbrev pub head_fits : List Variable → List ℕ → List Fact → ℕ → ℕ → ℕ → Bool
head_fits variables initial conds var old new = option_map_or (λ v. option_map_or (λ layer. heads variables initial conds layer var old new) v.layer false) (slice_get variables var) false

abbrev pub head_in : List Variable → List ℕ → List Fact → List ℕ → Option (ℕ × ℕ)
head_in variables initial conds line =
    option_and_then (λ x. if head_fits variables initial conds x.0 x.1 x.2 then Some (x.0, x.2) else None) (option_and_then three_numbers (numbers_of line))

abbrev pub rule_of : List Fact × (ℕ × ℕ) → Rule
rule_of parts = record { conds = parts.0; var = parts.1.0; new = parts.1.1 }

unfoldable pub rule_at : List Variable → List ℕ → Unit {0} → Reading Shape Rule
rule_at variables initial _ = made_at rule_of (after_at shape.BeginRule (exactly (codes "begin_rule"))
    (both_at (facts_at variables) (λ conds. before_at (row_at shape.Head (head_in variables initial conds)) shape.EndRule (exactly (codes "end_rule")))))

-- how many rules there can be
abbrev pub most_rules : List Variable → ℕ
most_rules variables = if list_all is_base variables then 0 else 1000000

abbrev pub rules_at : List Variable → List ℕ → Reading Shape (List Rule)
rules_at variables initial = counted_at shape.Count (count_to (most_rules variables)) (rule_at variables initial) kept tt

-- The file.

abbrev pub Parts : Type 0
Parts = ℕ × (List Variable × (List (List Fact) × (List ℕ × (List Fact × (List Operator × List Rule)))))

abbrev pub task_of : Parts → TaskParts
task_of parts = record {
  metric = parts.0;
  variables = parts.1.0;
  mutexes = parts.1.1.0;
  initial = parts.1.1.1.0;
  goal = parts.1.1.1.1.0;
  operators = parts.1.1.1.1.1.0;
  rules = parts.1.1.1.1.1.1;
}

unfoldable pub main_at : Reading Shape TaskParts
main_at = made_at task_of (both_at header_at (λ _. both_at variables_at (λ variables. both_at (groups_at variables) (λ _. both_at (state_at variables) (λ initial.
    both_at (goal_at variables) (λ _. both_at (operators_at variables) (λ _. rules_at variables initial)))))))

abbrev pub blank_line : List ℕ → Option (Unit {0})
blank_line line = if is_blank line then Some tt else None

abbrev pub blank_at : Reading Shape (Unit {0})
blank_at = row_at shape.Blank blank_line

abbrev pub file_at : Reading Shape TaskParts
file_at = whole_at main_at shape.Blank is_blank

-- The transition system of a task: what the task means, computed.
use Rattle.std.specs.Prelude.{ℕ, zero, suc, Bool, true, false, not, ◌&&◌, ◌||◌, ◌==◌, nat_lt, if◌then◌else◌, List, [], ◌∷◌, length, map, slice_index, slice_get, slice_set, fold, find, Option, Some, None}
use Rattle.std.specs.Option.{option_map, option_map_or}
use Rattle.std.specs.List.{list_any, list_all, cons_option, range_with_len, flat_map}
use Rattle.symk_task.specs.declared.parts.Fact.{Fact}
use Rattle.symk_task.specs.declared.parts.Variable.{Variable}
use Rattle.symk_task.specs.declared.parts.Effect.{Effect}
use Rattle.symk_task.specs.declared.parts.Operator.{Operator}
use Rattle.symk_task.specs.declared.parts.Rule.{Rule}
use Rattle.symk_task.specs.declared.parts.TaskParts.{TaskParts}
use Rattle.symk_task.specs.Variables.{is_base, range, place, other_value, base_values}
use Rattle.symk_task.specs.Steps.{cost_at}
use Rattle.task_system.specs.System.{State, System}

-- The values of all variables in a state.

-- what a variable is: Some (Some layer) where it is derived, Some None where it is a base variable, None where the task has none of this number
abbrev pub layer_at : TaskParts → ℕ → Option (Option ℕ)
layer_at task var = option_map (λ (v : Variable). v.layer) (slice_get task.variables var)

-- it is derived, and of this layer
abbrev pub is_at : ℕ → Option (Option ℕ) → Bool
is_at layer None = false
is_at layer (Some None) = false
is_at layer (Some (Some other)) = other == layer

-- a rule of the list is for var
abbrev pub has_rule : ℕ → List Rule → Bool
has_rule var rules = list_any (λ (rule : Rule). rule.var == var) rules

-- Whether a condition of a rule for the layer is met after the rules of the list, by what its variable is. Low tells the raised variables of lower layers.
abbrev pub meets : TaskParts → State → (ℕ → Bool) → ℕ → List Rule → Fact → Option (Option ℕ) → Bool
meets task s low layer earlier fact None = false
meets task s low layer earlier fact (Some None) = slice_index s (place task fact.var) == fact.val
meets task s low layer earlier fact (Some (Some at)) =
    ((at == layer) && ((fact.val == other_value task fact.var) && has_rule fact.var earlier))
    || (nat_lt at layer && (fact.val == (if low fact.var then other_value task fact.var else slice_index task.initial fact.var)))

-- whether each condition is
abbrev pub meets_all : TaskParts → State → (ℕ → Bool) → ℕ → List Rule → List Fact → Bool
meets_all task s low layer earlier facts = list_all (λ (fact : Fact). meets task s low layer earlier fact (layer_at task fact.var)) facts

-- the rule counts, is for the layer, has no rule for its variable in the list, and its conditions are met after the list
abbrev pub derives_more : TaskParts → State → (ℕ → Bool) → ℕ → List Rule → Rule → Bool
derives_more task s low layer earlier rule =
    (rule.new == other_value task rule.var) && (is_at layer (layer_at task rule.var) && (not (has_rule rule.var earlier) && meets_all task s low layer earlier rule.conds))

-- At most so many rules of the layer, last rule first, each the first of the task that derives something new.
unfoldable pub fired_rules : TaskParts → State → (ℕ → Bool) → ℕ → ℕ → List Rule
fired_rules task s low layer zero = []
fired_rules task s low layer (suc most) =
    let earlier = fired_rules task s low layer most in cons_option (find (derives_more task s low layer earlier) task.rules) earlier

-- whether var is raised, and its layer is below the number: layer after layer, each until no rule derives anything new
unfoldable pub raised_below : ℕ → TaskParts → State → ℕ → Bool
raised_below zero task s var = false
raised_below (suc layer) task s var = has_rule var (fired_rules task s (raised_below layer task s) layer (length task.rules)) || raised_below layer task s var

-- what a variable has in a state, by what it is
abbrev pub value_by : TaskParts → State → ℕ → Option (Option ℕ) → ℕ
value_by task s var None = 0
value_by task s var (Some None) = slice_index s (place task var)
value_by task s var (Some (Some layer)) = if raised_below (suc layer) task s var then other_value task var else slice_index task.initial var

-- what it has, by its number
unfoldable pub value_in : TaskParts → State → ℕ → ℕ
value_in task s var = value_by task s var (layer_at task var)

-- the value of each variable in a state
unfoldable pub values_in : TaskParts → State → List ℕ
values_in task s = map (value_in task s) (range_with_len 0 (length task.variables))

-- Steps and the goal.

-- each fact has its value
abbrev pub have_all : List ℕ → List Fact → Bool
have_all values facts = list_all (λ (fact : Fact). slice_index values fact.var == fact.val) facts

-- no effect asks for another value than its variable's
abbrev pub allow_all : List ℕ → List Effect → Bool
allow_all values effects = list_all (λ (effect : Effect). option_map_or (λ val. slice_index values effect.var == val) effect.pre true) effects

-- the new values after an effect, whose conditions are judged in the old ones
abbrev pub value_set : List ℕ → List ℕ → Effect → List ℕ
value_set old new effect = if have_all old effect.conds then slice_set new effect.var effect.post else new

-- where the operator leads by these values, if it applies
abbrev pub step_by : TaskParts → List ℕ → Option Operator → Option State
step_by task values None = None
step_by task values (Some operator) =
    if have_all values operator.prevail && allow_all values operator.effects then Some (base_values task.variables (fold (value_set values) values operator.effects)) else None

-- where the operator of this number leads, if it applies
unfoldable pub step : TaskParts → ℕ → State → Option State
step task a s = step_by task (values_in task s) (slice_get task.operators a)

-- whether each goal fact holds
unfoldable pub goal_holds : TaskParts → State → Bool
goal_holds task s = have_all (values_in task s) task.goal

-- each choice of a value for each base variable
unfoldable pub assignments : List Variable → List State
assignments [] = [] ∷ []
assignments (v ∷ variables) =
    let later = assignments variables in if is_base v then flat_map (λ (x : ℕ). map (λ (s : State). x ∷ s) later) (range_with_len 0 (range v)) else later

-- The transition system of a task.
abbrev pub system_of : TaskParts → System
system_of task = record {
  initial = base_values task.variables task.initial;
  step = step task;
  goal = goal_holds task;
  cost = cost_at task;
  operators = length task.operators;
  states = assignments task.variables;
}

-- What a task file can state.
use Rattle.std.specs.Prelude.{◌≡◌, ℕ, ◌<◌, ◌≤◌, ◌⊎◌, List, Option, length, slice_get, slice_index, All, Contains, None, IfSome, IsSomeAnd, sum_by, if◌then◌else◌}
use Rattle.symk_task.specs.declared.parts.Fact.{Fact}
use Rattle.symk_task.specs.declared.parts.Variable.{Variable}
use Rattle.symk_task.specs.declared.parts.Effect.{Effect}
use Rattle.symk_task.specs.declared.parts.Operator.{Operator}
use Rattle.symk_task.specs.declared.parts.Rule.{Rule}
use Rattle.symk_task.specs.declared.parts.TaskParts.{TaskParts}
use Rattle.symk_task.specs.Variables.{range, width, is_base, IsBase, HasLayer, other_value}

-- A name is one line, so it has no LF.
pub record IsName (name : List ℕ) : Type 0 where
  pub line : ¬ Contains name 10

-- the fact is one of a variable that is there
abbrev pub InRange : List Variable → Fact → Type 0
InRange variables fact = IsSomeAnd (slice_get variables fact.var) (λ v. fact.val < range v)

abbrev pub AreFacts : List Variable → List Fact → Type 0
AreFacts variables facts = (length facts ≤ 65536) × All (InRange variables) facts

-- there is a value for each variable, in its range
abbrev pub AreValues : List Variable → List ℕ → Type 0
AreValues variables values = (length values ≡ length variables) × ((var : ℕ) → IfSome (slice_get variables var) (λ v. slice_index values var < range v))

-- how many bits of a state a variable takes
abbrev pub bits_of : Variable → ℕ
bits_of v = if is_base v then width (range v) else 0

-- a base variable has 1 to 65,536 values, a derived one two and a layer below 65,536
pub record FitsRange (layer : Option ℕ) (count : ℕ) : Type 0 where
  pub some : 1 ≤ count
  pub most : count ≤ 65536
  pub derived : IfSome layer (λ _. count ≡ 2)
  pub layer_most : IfSome layer (λ layer. layer < 65536)

-- the variable's names are lines, and it has as many values as it may
pub record FitsVariable (v : Variable) : Type 0 where
  pub name : IsName v.name
  pub values : All IsName v.values
  pub range : FitsRange v.layer (range v)

abbrev pub FitsVariables : List Variable → Type 0
FitsVariables variables = (length variables ≤ 65536) × All FitsVariable variables × (sum_by bits_of variables ≤ 65536)

abbrev pub FitsMutexes : List Variable → List (List Fact) → Type 0
FitsMutexes variables groups = (length groups ≤ 1000000) × All (AreFacts variables) groups

-- the effect is one on a base variable of the task, and its values and conditions are in range
pub record FitsEffect (variables : List Variable) (effect : Effect) : Type 0 where
  pub conds : AreFacts variables effect.conds
  pub on : IsSomeAnd (slice_get variables effect.var) (λ v. (v.layer ≡ None) × (effect.post < range v))
  pub pre : IfSome effect.pre (λ val. InRange variables (record { var = effect.var; val = val }))

pub record FitsOperator (variables : List Variable) (operator : Operator) : Type 0 where
  pub name : IsName operator.name
  pub prevail : AreFacts variables operator.prevail
  pub effects : length operator.effects ≤ 65536
  pub each : All (FitsEffect variables) operator.effects

abbrev pub FitsOperators : List Variable → List Operator → Type 0
FitsOperators variables operators = (length operators ≤ 1000000) × All (FitsOperator variables) operators

-- What a counting rule for a layer may have among its conditions: base facts, facts of lower layers, and of its own layer those at the other value.
abbrev pub MayStand : TaskParts → ℕ → Fact → Type 0
MayStand task layer fact =
    IsBase task fact.var ⊎ ((below : ℕ) × HasLayer task fact.var below × ((below < layer) ⊎ ((below ≡ layer) × (fact.val ≡ other_value task fact.var))))

-- the head is a derived variable's value, and where it isn't the default value each condition may stand there
pub record FitsRule (task : TaskParts) (rule : Rule) : Type 0 where
  pub conds : AreFacts task.variables rule.conds
  pub layer : ℕ
  pub on : HasLayer task rule.var layer
  pub new : rule.new < 2
  pub kept : rule.new ≡ other_value task rule.var → All (MayStand task layer) rule.conds

abbrev pub FitsRules : TaskParts → Type 0
FitsRules task = (length task.rules ≤ 1000000) × All (FitsRule task) task.rules

-- What a task file can state.
pub record Fits (task : TaskParts) : Type 0 where
  pub metric : task.metric < 2
  pub variables : length task.variables ≤ 65536
  pub each_variable : All FitsVariable task.variables
  pub bits : sum_by bits_of task.variables ≤ 65536
  pub mutexes : length task.mutexes ≤ 1000000
  pub each_mutex : All (AreFacts task.variables) task.mutexes
  pub initial : length task.initial ≡ length task.variables
  pub each_value : (var : ℕ) → IfSome (slice_get task.variables var) (λ v. slice_index task.initial var < range v)
  pub goal : AreFacts task.variables task.goal
  pub operators : length task.operators ≤ 1000000
  pub each_operator : All (FitsOperator task.variables) task.operators
  pub rules : length task.rules ≤ 1000000
  pub each_rule : All (FitsRule task) task.rules

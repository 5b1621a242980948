-- How the values of the derived variables of a layer are found.
use Rattle.std.specs.Prelude.{◌≡◌, ◌≢◌, ℕ, false, List, [], ◌∷◌, take, slice_index, slice_set, slice_get, All, Contains, ◌==◌, ◌+◌, if◌then◌else◌, count_by}
use Rattle.std.specs.Option.{option_map_or}
use Rattle.symk_task.specs.declared.parts.Variable.{Variable}
use Rattle.symk_task.specs.declared.parts.Rule.{Rule}
use Rattle.symk_task.specs.declared.parts.TaskParts.{TaskParts}
use Rattle.symk_task.specs.Variables.{is_base, HasLayer}
use Rattle.task_run.specs.Values.{HasValue}

-- the rule is one that counts, for a variable of the layer
pub record IsOwnRule (task : TaskParts) (layer : ℕ) (rule : Rule) : Type 0 where
  pub counts : rule.new ≢ slice_index task.initial rule.var
  pub on : HasLayer task rule.var layer

-- the rule is one of the layer that counts, and its variable still has its default value
pub record IsOpenRule (task : TaskParts) (layer : ℕ) (values : List ℕ) (rule : Rule) : Type 0 where
  pub own : IsOwnRule task layer rule
  pub unraised : slice_index values rule.var ≡ slice_index task.initial rule.var

-- such a rule, and its conditions have their values
pub record Raises (task : TaskParts) (layer : ℕ) (values : List ℕ) (rule : Rule) : Type 0 where
  pub opened : IsOpenRule task layer values rule
  pub conds : All (HasValue values) rule.conds

-- rules of the layer lead from the values to others, one after the other
pub data Grows (task : TaskParts) (layer : ℕ) : List ℕ → List ℕ → Type 0 where
  done : (values : List ℕ) → Grows task layer values values
  by : (values more : List ℕ) (rule : Rule) → Grows task layer values more → Contains task.rules rule → Raises task layer more rule → Grows task layer values (slice_set more rule.var rule.new)

-- no rule of the layer raises anything
abbrev pub IsStuck : TaskParts → ℕ → List ℕ → Type 0
IsStuck task layer values = All (λ rule. ¬ Raises task layer values rule) task.rules

-- what each variable has before any rule
abbrev pub start_value : List Variable → List ℕ → List ℕ → ℕ → ℕ
start_value variables initial s var =
    if option_map_or is_base (slice_get variables var) false then slice_index s (count_by is_base (take var variables)) else slice_index initial var

-- how many variables have their default value
abbrev pub at_default : List ℕ → List ℕ → ℕ
at_default [] values = 0
at_default (x ∷ initial) [] = 0
at_default (x ∷ initial) (y ∷ values) = (if y == x then 1 else 0) + at_default initial values

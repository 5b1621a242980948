-- Variables, their places in a state, and states.
use Rattle.std.specs.Prelude.{◌≡◌, ℕ, zero, suc, ◌+◌, ◌*◌, ◌-◌, nat_le, if◌then◌else◌, ◌<◌, Bool, List, [], ◌∷◌, Option, option_and_then, length, take, slice_get, slice_index, count_by, Some, None, is_none, IsSomeAnd, IfSome}
use Rattle.symk_task.specs.declared.parts.Variable.{Variable}
use Rattle.symk_task.specs.declared.parts.TaskParts.{TaskParts}

-- a variable with no layer
abbrev pub is_base : Variable → Bool
is_base v = is_none v.layer

-- how many values a variable has
abbrev pub range : Variable → ℕ
range v = length v.values

-- how often 1 is doubled until it is at least n, at most as often as the first number says
unfoldable pub doublings : ℕ → ℕ → ℕ → ℕ
doublings zero power n = 0
doublings (suc most) power n = if nat_le n power then 0 else doublings most (2 * power) n + 1

-- how many bits tell n values apart: the least b with n at most 2^b
unfoldable pub width : ℕ → ℕ
width n = doublings n 1 n

-- the layer of a derived variable
abbrev pub layer_of : TaskParts → ℕ → Option ℕ
layer_of task var = option_and_then (λ v. v.layer) (slice_get task.variables var)

-- var is the number of a base variable
abbrev pub IsBase : TaskParts → ℕ → Type 0
IsBase task var = IsSomeAnd (slice_get task.variables var) (λ v. v.layer ≡ None)

-- var is the number of a derived variable of this layer
abbrev pub HasLayer : TaskParts → ℕ → ℕ → Type 0
HasLayer task var layer = IsSomeAnd (slice_get task.variables var) (λ v. v.layer ≡ Some layer)

-- how many base variables come before var in the file
abbrev pub place : TaskParts → ℕ → ℕ
place task var = count_by is_base (take var task.variables)

-- One value for each base variable, in the order of the file, each in its range.
pub record IsState (task : TaskParts) (s : List ℕ) : Type 0 where
  pub each : length s ≡ count_by is_base task.variables
  pub in_range : (var : ℕ) → IfSome (slice_get task.variables var) (λ v. v.layer ≡ None → slice_index s (place task var) < range v)

-- the value that is not the default: derived variables have the values 0 and 1
abbrev pub other_value : TaskParts → ℕ → ℕ
other_value task var = 1 - slice_index task.initial var

-- the values of the base variables, where there is a value for each variable
abbrev pub base_values : List Variable → List ℕ → List ℕ
base_values [] values = []
base_values (v ∷ variables) [] = []
base_values (v ∷ variables) (x ∷ values) = if is_base v then x ∷ base_values variables values else base_values variables values

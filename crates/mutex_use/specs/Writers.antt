-- Which operators have an effect on a variable.
use Rattle.std.specs.Prelude.{◌≡◌, ℕ, ◌<◌, ◌⊎◌, List, [], length, slice_get, slice_index_or, Some, Contains, All}
use Rattle.symk_task.specs.declared.parts.Fact.{Fact}
use Rattle.symk_task.specs.declared.parts.Effect.{Effect}
use Rattle.symk_task.specs.declared.parts.Operator.{Operator}
use Rattle.symk_task.specs.declared.parts.TaskParts.{TaskParts}

-- the operators that are noted for a variable
abbrev pub writers_at : List (List ℕ) → ℕ → List ℕ
writers_at writers var = slice_index_or writers var []

-- an effect of the operator is on the variable
abbrev pub WritesVariable : TaskParts → ℕ → ℕ → Type 0
WritesVariable task op var =
    (operator : Operator) × (effect : Effect)
    × (slice_get task.operators op ≡ Some operator) × Contains operator.effects effect × (effect.var ≡ var)

-- For each variable those of the first n operators that have an effect on it, and no number that is none of them.
pub record AreWriters (task : TaskParts) (n : ℕ) (writers : List (List ℕ)) : Type 0 where
  pub each : length writers ≡ length task.variables
  pub all : (op var : ℕ) → op < n → WritesVariable task op var → Contains (writers_at writers var) op
  pub only : (op var : ℕ) → Contains (writers_at writers var) op → op < n

-- the operator is noted for the variable of each effect, and nothing else is changed
pub record NotesWriter (old : List (List ℕ)) (op : ℕ) (effects : List Effect) (new : List (List ℕ)) : Type 0 where
  pub each : length new ≡ length old
  pub kept : (var x : ℕ) → Contains (writers_at old var) x → Contains (writers_at new var) x
  pub noted : (effect : Effect) → Contains effects effect → Contains (writers_at new effect.var) op
  pub only : (var x : ℕ) → Contains (writers_at new var) x → Contains (writers_at old var) x ⊎ (x ≡ op)

-- the variable is one of a fact
abbrev pub IsVariableOf : List Fact → ℕ → Type 0
IsVariableOf facts var = (fact : Fact) × Contains facts fact × (fact.var ≡ var)

-- the operator is noted for one of the variables
abbrev pub IsNotedIn : List (List ℕ) → List ℕ → ℕ → Type 0
IsNotedIn writers variables op = (var : ℕ) × Contains variables var × Contains (writers_at writers var) op

-- an effect of the operator is on a variable of the facts
abbrev pub Touches : TaskParts → ℕ → List Fact → Type 0
Touches task op facts = (fact : Fact) × Contains facts fact × WritesVariable task op fact.var

-- each operator that touches the facts is one of the list, and each of the list is an operator
pub record HaveTouching (task : TaskParts) (facts : List Fact) (operators : List ℕ) : Type 0 where
  pub all : (op : ℕ) → op < length task.operators → Touches task op facts → Contains operators op
  pub only : All (λ op. op < length task.operators) operators

-- The rules that are still to be looked at, and those that wait for a variable.
use Rattle.std.specs.Prelude.{◌≡◌, ℕ, ◌<◌, ◌⊎◌, List, [], ◌∷◌, length, slice_index, slice_index_or, slice_get, Some, Contains}
use Rattle.symk_task.specs.declared.parts.Fact.{Fact}
use Rattle.symk_task.specs.declared.parts.Rule.{Rule}
use Rattle.symk_task.specs.declared.parts.TaskParts.{TaskParts}
use Rattle.task_run.specs.Values.{HasValue}
use Rattle.task_run.specs.Layer.{IsOwnRule, IsOpenRule}

abbrev pub StandsInList : List ℕ → ℕ → Type 0
StandsInList [] x = ⊥
StandsInList (y ∷ ys) x = (y ≡ x) ⊎ StandsInList ys x

abbrev pub waiting_at : List (List ℕ) → ℕ → List ℕ
waiting_at waiting var = slice_index_or waiting var []

-- where the rule of this number is kept
pub data Placed (task : TaskParts) (layer : ℕ) (values stack : List ℕ) (waiting : List (List ℕ)) (x : ℕ) (rule : Rule) : Type 0 where
  stacked : StandsInList stack x → Placed task layer values stack waiting x rule
  idle : ¬ IsOpenRule task layer values rule → Placed task layer values stack waiting x rule
  waits : (fact : Fact) → Contains rule.conds fact → ¬ HasValue values fact
      → StandsInList (waiting_at waiting fact.var) x → Placed task layer values stack waiting x rule

abbrev pub AllPlaced : TaskParts → ℕ → List ℕ → List ℕ → List (List ℕ) → Type 0
AllPlaced task layer values stack waiting = (x : ℕ) (rule : Rule) → slice_get task.rules x ≡ Some rule → Placed task layer values stack waiting x rule

-- all but one
abbrev pub AllBut : ℕ → TaskParts → ℕ → List ℕ → List ℕ → List (List ℕ) → Type 0
AllBut y task layer values stack waiting = (x : ℕ) (rule : Rule) → slice_get task.rules x ≡ Some rule → (y ≡ x) ⊎ Placed task layer values stack waiting x rule

-- the numbers are rules'
abbrev pub AreRules : TaskParts → List ℕ → Type 0
AreRules task xs = (x : ℕ) → StandsInList xs x → x < length task.rules

pub record KeptRules (task : TaskParts) (stack : List ℕ) (waiting : List (List ℕ)) : Type 0 where
  pub each : length waiting ≡ length task.variables
  pub stacked : AreRules task stack
  pub waits : (var : ℕ) → AreRules task (waiting_at waiting var)

-- the conditions before the place have their values
abbrev pub HasBefore : List ℕ → Rule → ℕ → Type 0
HasBefore values rule place = (k : ℕ) (d : Fact) → k < place → k < length rule.conds → HasValue values (slice_index_or rule.conds k d)

-- no rule of the layer or a higher one has been looked at
pub record IsFresh (task : TaskParts) (layer : ℕ) (places : List ℕ) : Type 0 where
  pub each : length places ≡ length task.rules
  pub later : (x : ℕ) (rule : Rule) (at : ℕ) → slice_get task.rules x ≡ Some rule → IsOwnRule task at rule → ¬ (at < layer) → slice_index places x ≡ 0

-- Each rule of the layer has the conditions before the place where the last look stopped, and no rule of a higher one has been looked at.
pub record Passed (task : TaskParts) (layer : ℕ) (values places : List ℕ) : Type 0 where
  pub each : length places ≡ length task.rules
  pub own : (x : ℕ) (rule : Rule) → slice_get task.rules x ≡ Some rule → IsOwnRule task layer rule → HasBefore values rule (slice_index places x)
  pub later : (x : ℕ) (rule : Rule) (at : ℕ) → slice_get task.rules x ≡ Some rule → IsOwnRule task at rule → layer < at → slice_index places x ≡ 0

-- All values in a state, derived ones included.
use Rattle.std.specs.Prelude.{◌≡◌, ℕ, ◌<◌, ◌↔◌, List, length, slice_index, All, IfSome}
use Rattle.symk_task.specs.declared.parts.Fact.{Fact}
use Rattle.symk_task.specs.declared.parts.Effect.{Effect}
use Rattle.symk_task.specs.declared.parts.Operator.{Operator}
use Rattle.symk_task.specs.declared.parts.TaskParts.{TaskParts}
use Rattle.symk_task.specs.Fits.{InRange}
use Rattle.symk_task.specs.Steps.{Holds}

abbrev pub HasValue : List ℕ → Fact → Type 0
HasValue values fact = slice_index values fact.var ≡ fact.val

-- One value for each variable, the one that holds in the state.
pub record Valued (task : TaskParts) (s values : List ℕ) : Type 0 where
  pub each : length values ≡ length task.variables
  pub holds : (fact : Fact) → InRange task.variables fact → Holds task s fact ↔ HasValue values fact

-- the effect's conditions have their values
abbrev pub FiresBy : List ℕ → Effect → Type 0
FiresBy values effect = All (HasValue values) effect.conds

-- the value that an effect asks for, where it asks for one, is that of its variable
abbrev pub AllowsBy : List ℕ → Effect → Type 0
AllowsBy values effect = IfSome effect.pre (λ val. slice_index values effect.var ≡ val)

-- the operator's preconditions have their values
abbrev pub AppliesBy : List ℕ → Operator → Type 0
AppliesBy values operator = All (HasValue values) operator.prevail × All (AllowsBy values) operator.effects

abbrev pub AreBelow : ℕ → List Fact → Type 0
AreBelow n facts = All (λ fact. fact.var < n) facts

-- the effect is on one of n variables, and so are its conditions
pub record IsOn (n : ℕ) (effect : Effect) : Type 0 where
  pub var : effect.var < n
  pub conds : AreBelow n effect.conds

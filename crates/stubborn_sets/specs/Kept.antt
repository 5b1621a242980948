-- What is kept of a task: lists of operators, and of rules.
use Rattle.std.specs.Prelude.{◌≡◌, ◌≢◌, ℕ, ◌+◌, ◌<◌, ◌⊎◌, Bool, List, [], length, slice_get, slice_index, slice_index_or, Option, Some, None, All, Contains, IsSomeAnd}
use Rattle.std.proofs.Common.{Vec, Global}
use Rattle.symk_task.specs.declared.parts.Fact.{Fact}
use Rattle.symk_task.specs.declared.parts.Effect.{Effect}
use Rattle.symk_task.specs.declared.parts.Rule.{Rule}
use Rattle.symk_task.specs.declared.parts.TaskParts.{TaskParts}
use Rattle.symk_task.specs.Variables.{IsBase}
use Rattle.task_system.specs.Computed.{system_of}
use Rattle.stubborn_sets.specs.Commuting.{Commute}
use Rattle.stubborn_sets.specs.declared.lists.Lists.{Lists}
use Rattle.stubborn_sets.specs.declared.makers.Makers.{Makers}
use Rattle.stubborn_sets.specs.declared.conflicts.Conflicts.{Conflicts}
use Rattle.stubborn_sets.specs.Depending.{WritesOff, LeavesAlone}
use Rattle.stubborn_sets.specs.Making.{IsNoMaker}

abbrev pub items_in : Option (Vec ℕ Global) → List ℕ
items_in None = []
items_in (Some v) = v.items

-- the list of this number, empty where there is none
abbrev pub list_in : List (Vec ℕ Global) → ℕ → List ℕ
list_in lists i = items_in (slice_get lists i)

abbrev pub list_at : Lists → ℕ → List ℕ
list_at lists i = list_in lists.lists.items i

-- Each list has what it had, and nothing is new but this one number.
pub record AddsOne (old new : ℕ → List ℕ) (op : ℕ) : Type 0 where
  pub keeps : (i a : ℕ) → Contains (old i) a → Contains (new i) a
  pub adds : (i a : ℕ) → Contains (new i) a → Contains (old i) a ⊎ (a ≡ op)

-- the number of a fact, by those of the variables' first values
abbrev pub number_of : List ℕ → Fact → ℕ
number_of firsts fact = slice_index firsts fact.var + fact.val

-- what the effect makes true
abbrev pub given_by : Effect → Fact
given_by effect = record { var = effect.var; val = effect.post }

-- the list of the fact, by its number
abbrev pub givers_of : List ℕ → Lists → Fact → List ℕ
givers_of firsts given fact = list_at given (number_of firsts fact)

-- Of the operators below the number, the list of each fact has those with an effect that gives it.
pub record AreGiversBelow (task : TaskParts) (below : ℕ) (lists : Fact → List ℕ) : Type 0 where
  pub within : (fact : Fact) (a : ℕ) → Contains (lists fact) a → a < below
  pub each : (a : ℕ) → a < below → IsSomeAnd (slice_get task.operators a) (λ operator. All (λ effect. Contains (lists (given_by effect)) a) operator.effects)

abbrev pub AreGivers : TaskParts → (Fact → List ℕ) → Type 0
AreGivers task lists = AreGiversBelow task (length task.operators) lists

-- Numbers below the bound, and those that are left out are as they should be.
pub record LeavesOut (Fine : ℕ → Type 0) (below : ℕ) (ops : List ℕ) : Type 0 where
  pub within : (a : ℕ) → Contains ops a → a < below
  pub out : (a : ℕ) → a < below → ¬ Contains ops a → Fine a

-- no effect of the operator is on a marked variable
abbrev pub IsOff : TaskParts → List Bool → ℕ → Type 0
IsOff task marks a = IsSomeAnd (slice_get task.operators a) (λ operator. WritesOff marks operator.effects)

-- no effect of the operator is on what the variable depends on
abbrev pub IsNoChanger : TaskParts → ℕ → ℕ → Type 0
IsNoChanger task var a = IsSomeAnd (slice_get task.operators a) (λ operator. LeavesAlone task var operator.effects)

-- operators, among them each with an effect on what the variable depends on, where it is a derived one
abbrev pub AreChangers : TaskParts → ℕ → List ℕ → Type 0
AreChangers task var ops = IsBase task var ⊎ LeavesOut (IsNoChanger task var) (length task.operators) ops

-- operators, among them each that can make the fact true
abbrev pub AreMakers : TaskParts → Fact → List ℕ → Type 0
AreMakers task fact ops = LeavesOut (IsNoMaker task fact) (length task.operators) ops

-- the rule of this number is for another variable
abbrev pub IsForOther : List Rule → ℕ → ℕ → Type 0
IsForOther rules var k = (d : Rule) → (slice_index_or rules k d).var ≢ var

-- rules, among them each that is for the variable
abbrev pub AreRulesFor : List Rule → ℕ → List ℕ → Type 0
AreRulesFor rules var numbers = LeavesOut (IsForOther rules var) (length rules) numbers

-- the operators that can make a fact true are known, and the rules for a variable
pub record KnowsMakers (task : TaskParts) (makers : Makers) : Type 0 where
  pub given : AreGivers task (givers_of makers.firsts.items makers.given)
  pub changers : (var : ℕ) → var < length task.variables → AreChangers task var (list_in makers.changers.items var)
  pub rules : (var : ℕ) → AreRulesFor task.rules var (list_at makers.rules var)

-- operators, among them each that doesn't commute with this one
abbrev pub AreConflicts : TaskParts → ℕ → List ℕ → Type 0
AreConflicts task one ops = LeavesOut (Commute (system_of task) one) (length task.operators) ops

abbrev pub items_found : Option (Option (Vec ℕ Global)) → Option (List ℕ)
items_found None = None
items_found (Some None) = None
items_found (Some (Some v)) = Some v.items

-- the list of this operator, if it was made
abbrev pub conflicts_at : Conflicts → ℕ → Option (List ℕ)
conflicts_at conflicts i = items_found (slice_get conflicts.rows.items i)

-- no other list is new than this one, of this operator
abbrev pub PutsRow : (ℕ → Option (List ℕ)) → (ℕ → Option (List ℕ)) → ℕ → List ℕ → Type 0
PutsRow old new one ops = (i : ℕ) (list : List ℕ) → new i ≡ Some list → (old i ≡ Some list) ⊎ ((i ≡ one) × (list ≡ ops))

-- each list that was made has the operators that don't commute with its own
pub record KnowsConflicts (task : TaskParts) (conflicts : Conflicts) : Type 0 where
  pub each : (i : ℕ) (ops : List ℕ) → conflicts_at conflicts i ≡ Some ops → AreConflicts task i ops

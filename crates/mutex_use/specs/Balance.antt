-- Operators that keep a group, as their effects tell: those that are balanced.
use Rattle.std.specs.Prelude.{◌≡◌, ℕ, ◌<◌, ◌⊎◌, List, [], Some, Contains, All, IsSomeAnd, length, slice_get}
use Rattle.std.specs.List.{Any}
use Rattle.symk_task.specs.declared.parts.Fact.{Fact}
use Rattle.symk_task.specs.declared.parts.Effect.{Effect}
use Rattle.symk_task.specs.declared.parts.Operator.{Operator}
use Rattle.symk_task.specs.declared.parts.TaskParts.{TaskParts}
use Rattle.symk_task.specs.Steps.{Step}
use Rattle.task_system.specs.System.{State}
use Rattle.mutex_use.specs.Groups.{HasAtMostOne}

-- the fact that holds once the effect has changed its variable
abbrev pub fact_after : Effect → Fact
fact_after effect = record { var = effect.var; val = effect.post }

-- the effect makes one of the facts hold
abbrev pub Adds : List Fact → Effect → Type 0
Adds facts effect = Contains facts (fact_after effect)

-- the effect always changes its variable, and asks of it one of the facts
abbrev pub Takes : List Fact → Effect → Type 0
Takes facts effect =
    (val : ℕ) × (effect.pre ≡ Some val) × (effect.conds ≡ [])
    × Contains facts (record { var = effect.var; val = val })

-- each of the effects that makes one of the facts hold makes this one hold
abbrev pub AddAtMost : List Fact → List Effect → Fact → Type 0
AddAtMost facts effects fact = All (λ effect. Adds facts effect → fact_after effect ≡ fact) effects

-- the effect makes none of the facts hold
unfoldable pub AddsNone : List Fact → Effect → Type 0
AddsNone facts effect = ¬ Adds facts effect

-- the effect makes none of the facts hold, or the one that all of these effects make hold that make one hold
unfoldable pub AddsAsAll : List Fact → List Effect → Effect → Type 0
AddsAsAll facts effects effect = Adds facts effect → AddAtMost facts effects (fact_after effect)

-- Effects are balanced where they make none of the facts hold, or one of them and take one away.
abbrev pub IsBalanced : List Fact → List Effect → Type 0
IsBalanced facts effects =
    All (AddsNone facts) effects ⊎ (Any (Takes facts) effects × All (AddsAsAll facts effects) effects)

-- the effects of the operator of this number are balanced
abbrev pub IsBalancedAt : List Operator → List Fact → ℕ → Type 0
IsBalancedAt operators facts op = IsSomeAnd (slice_get operators op) (λ operator. IsBalanced facts operator.effects)

-- each operator of the one list is one of the other, or balanced, and each of the other is an operator
pub record HaveUnbalanced (operators : List Operator) (facts : List Fact) (among left : List ℕ) : Type 0 where
  pub all : (op : ℕ) → Contains among op → Contains left op ⊎ IsBalancedAt operators facts op
  pub only : All (λ op. op < length operators) left

-- Each operator that leads from a state with at most one of the facts to one with more is one of the list, and each
-- of the list is an operator.
pub record HaveBreaking (task : TaskParts) (facts : List Fact) (operators : List ℕ) : Type 0 where
  pub all : (op : ℕ) (s t : State) →
      HasAtMostOne task facts s → Step task s op t → ¬ HasAtMostOne task facts t → Contains operators op
  pub only : All (λ op. op < length task.operators) operators

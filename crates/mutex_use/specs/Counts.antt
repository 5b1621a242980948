-- Where facts of a group hold: one of them, and two different ones.
use Rattle.std.specs.Prelude.{◌≡◌, ◌≢◌, ◌⊎◌, ◌↔◌, List, Contains}
use Rattle.std.specs.List.{AllPairs}
use Rattle.symk_task.specs.declared.parts.Fact.{Fact}
use Rattle.symk_task.specs.declared.parts.TaskParts.{TaskParts}
use Rattle.symk_task.specs.Steps.{Holds}
use Rattle.task_system.specs.System.{State}
use Rattle.space_api.specs.View.{View, Has}
use Rattle.space_api.specs.Owned.{Trades}
use Rattle.mutex_use.specs.declared.counts.Counts.{Counts}

-- the list has each fact of the other one once
pub record IsEachOnce (facts each : List Fact) : Type 0 where
  pub same : (f : Fact) → Contains each f ↔ Contains facts f
  pub apart : AllPairs ◌≢◌ each

-- a fact of the list holds
abbrev pub HasOne : TaskParts → List Fact → State → Type 0
HasOne task facts s = (f : Fact) × Contains facts f × Holds task s f

-- two different ones do
abbrev pub HasTwo : TaskParts → List Fact → State → Type 0
HasTwo task facts s =
    (f : Fact) × (h : Fact) × Contains facts f × Contains facts h × (f ≢ h) × Holds task s f × Holds task s h

-- so in a state of the set
abbrev pub BreaksIn : {Set : Type 0} → View Set → Set → List Fact → State → Type 0
BreaksIn v a facts s = Has v a s × HasTwo v.task facts s

-- a is one of the two sets
abbrev pub IsOfCounts : {Set : Type 0} → Counts Set → Set → Type 0
IsOfCounts c a = (a ≡ c.once) ⊎ (a ≡ c.twice)

-- the two sets alone are new, and they are two
pub record IsNewPair {Set : Type 0} (v w : View Set) (c : Counts Set) : Type 0 where
  pub trades : Trades v w (λ a. ⊥) (IsOfCounts c)
  pub apart : c.once ≢ c.twice

-- the two sets, which are new, have the states of `within` where one of the facts holds, and where two do
pub record CountsFacts {Set : Type 0} (v w : View Set) (within : Set) (facts : List Fact) (c : Counts Set) : Type 0 where
  pub pair : IsNewPair v w c
  pub once : (s : State) → Has w c.once s ↔ (Has v within s × HasOne v.task facts s)
  pub twice : (s : State) → Has w c.twice s ↔ (Has v within s × HasTwo v.task facts s)

-- s was counted twice, or once and is in the set again
abbrev pub CountedAgain : {Set : Type 0} → View Set → Counts Set → Set → State → Type 0
CountedAgain v c here s = Has v c.twice s ⊎ (Has v c.once s × Has v here s)

-- the states of a set more are counted, by two new sets
pub record CountsMore {Set : Type 0} (v w : View Set) (c : Counts Set) (More : State → Type 0)
    (n : Counts Set) : Type 0 where
  pub apart : n.once ≢ n.twice
  pub once : (s : State) → Has w n.once s ↔ (Has v c.once s ⊎ More s)
  pub twice : (s : State) → Has w n.twice s ↔ (Has v c.twice s ⊎ (Has v c.once s × More s))

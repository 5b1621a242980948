-- Sets of states that keep groups, and what calls do to them.
use Rattle.std.specs.Prelude.{◌≡◌, ℕ, ◌↔◌, ◌⊎◌, IsFalse, List, [], ◌∷◌, Option, Some, None, Contains}
use Rattle.symk_task.specs.declared.parts.Fact.{Fact}
use Rattle.symk_task.specs.declared.parts.TaskParts.{TaskParts}
use Rattle.symk_task.specs.Variables.{IsState}
use Rattle.task_system.specs.System.{State, Leads}
use Rattle.space_api.specs.View.{View, Has, Preimage}
use Rattle.space_api.specs.Frames.{Gives, NoMore}
use Rattle.space_api.specs.Owned.{Trades}
use Rattle.mutex_use.specs.Groups.{HasAtMostOne, IsKeeper, GroupsHold}

-- the set has each state of the task
abbrev pub HasAll : {Set : Type 0} → View Set → Set → Type 0
HasAll v a = (s : State) → Has v a s ↔ IsState v.task s

-- r stands for the set a, which is given back, and has those of its states of which P holds
pub record NarrowsSet {Set : Type 0} (v w : View Set) (a : Set) (P : State → Type 0) (r : Set) : Type 0 where
  pub trades : Trades v w (λ x. x ≡ a) (λ x. x ≡ r)
  pub means : (s : State) → Has w r s ↔ (Has v a s × P s)

-- where at most one of the facts holds, in the set
abbrev pub KeepsIn : {Set : Type 0} → View Set → Set → List Fact → State → Type 0
KeepsIn v a facts s = Has v a s × HasAtMostOne v.task facts s

-- one of the operators leads from a state of the one set to one of the other
abbrev pub LeadsBetween : {Set : Type 0} → View Set → List ℕ → Set → Set → Type 0
LeadsBetween v operators from to = (op : ℕ) × Contains operators op × ((s : State) × Preimage v op to from s)

-- the initial state is outside the set, and none of the operators leads from a state of the other set into it
pub record IsSafe {Set : Type 0} (v : View Set) (operators : List ℕ) (a broken : Set) : Type 0 where
  pub initial : IsFalse (v.has broken v.system.initial)
  pub steps : (op : ℕ) (s t : State) →
      Contains operators op → Has v a s → Leads v.system op s t → IsFalse (v.has broken t)

-- the set is new, and has the states that keep each of some groups, which hold
abbrev pub KeepsHolding : {Set : Type 0} → View Set → View Set → TaskParts → Set → Type 0
KeepsHolding v w task a = (groups : List ℕ) × GroupsHold task groups × Gives v w (IsKeeper task groups) a

-- a set is new, and has the states of which P holds, or there is none
abbrev pub MayGive : {Set : Type 0} → View Set → View Set → (State → Type 0) → Option Set → Type 0
MayGive v w P None = NoMore v w
MayGive v w P (Some a) = Gives v w P a

-- the group holds by itself, and the set is new, and has the states that keep it; or there is none
abbrev pub MayKeepOne : {Set : Type 0} → View Set → View Set → TaskParts → ℕ → Option Set → Type 0
MayKeepOne v w task g None = NoMore v w
MayKeepOne v w task g (Some a) = GroupsHold task (g ∷ []) × Gives v w (IsKeeper task (g ∷ [])) a

-- so, of the states of a set
abbrev pub MayKeepMore : {Set : Type 0} → View Set → View Set → TaskParts → Set → ℕ → Option Set → Type 0
MayKeepMore v w task kept g None = NoMore v w
MayKeepMore v w task kept g (Some a) = GroupsHold task (g ∷ []) × Gives v w (λ s. Has v kept s × IsKeeper task (g ∷ []) s) a

-- r stands for the set `kept`, which is given back, and has its states, or those of them that keep the group, which
-- holds by itself
pub record NarrowsHolding {Set : Type 0} (v w : View Set) (task : TaskParts) (kept : Set) (g : ℕ) (r : Set) : Type 0 where
  pub trades : Trades v w (λ a. a ≡ kept) (λ a. a ≡ r)
  pub means : ((s : State) → Has w r s ↔ Has v kept s)
      ⊎ (GroupsHold task (g ∷ []) × ((s : State) → Has w r s ↔ (Has v kept s × IsKeeper task (g ∷ []) s)))

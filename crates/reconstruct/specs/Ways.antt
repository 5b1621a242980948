-- Where operators lead on from an entry.
use Rattle.std.specs.Prelude.{◌≡◌, ℕ, ◌-◌, ◌≤◌, ◌⊎◌, ◌↔◌, IsFalse, Option, Some, None}
use Rattle.symk_task.specs.Variables.{IsState}
use Rattle.task_system.specs.System.{State, Leads}
use Rattle.space_api.specs.View.{View, Valid, Has}
use Rattle.space_api.specs.Frames.{Stays}
use Rattle.cost_layers.specs.Layers.{union_at, Stands as StandsIn}
use Rattle.cost_layers.specs.declared.layers.Layers.{Layers}
use Rattle.reconstruct.specs.declared.entries.Prefix.{Prefix}
use Rattle.reconstruct.specs.declared.entries.Entry.{Entry}
use Rattle.reconstruct.specs.declared.entries.Entry.TheVariants.{Before, After, Partial}
use Rattle.reconstruct.specs.declared.ways.Way.{Way}

-- n is the least ring that meets the set, if one does
abbrev pub IsLeastRing : {Set : Type 0} → View Set → Layers Set → ℕ → Set → ℕ → Type 0
IsLeastRing v l c set n = (m : ℕ) (s : State) → StandsIn v l c m s → Has v set s → (n ≤ m) × ((t : State) × StandsIn v l c n t × Has v set t)

-- n is the least ring that has the state, if one does
abbrev pub IsFirstRing : {Set : Type 0} → View Set → Layers Set → ℕ → State → ℕ → Type 0
IsFirstRing v l c s n = (m : ℕ) → StandsIn v l c m s → (n ≤ m) × StandsIn v l c n s

-- the operator leads from s to t, between the layer and the entry's set or state
abbrev pub JoinsEntry : {Set : Type 0} → View Set → Entry Set → ℕ → Set → State → State → Type 0
JoinsEntry v (Before e) op within s t = Leads v.system op s t × Has v within s × Has v e.set t
JoinsEntry v (After e) op within s t = Leads v.system op s t × (s ≡ e.state) × Has v within t
JoinsEntry v (Partial e) op within s t = Leads v.system op s t × Has v within s × Has v e.prefix.set t

-- the layers into which the entry grows
abbrev pub side_for : {Set : Type 0} → Layers Set → Layers Set → Entry Set → Layers Set
side_for front back (Before e) = front
side_for front back (After e) = back
side_for front back (Partial e) = front

-- the layer of what is left of the cost after w, None where there is none
abbrev pub IsLayerTo : {Set : Type 0} → Layers Set → ℕ → ℕ → Option Set → Type 0
IsLayerTo l cost w None = w ≤ cost → union_at l (cost - w) ≡ None
IsLayerTo l cost w (Some a) = (w ≤ cost) × (union_at l (cost - w) ≡ Some a)

-- what a way says
abbrev pub IsWay : {Set : Type 0} → Layers Set → ℕ → Way Set → Type 0
IsWay l cost way = IsLayerTo l cost way.cost way.layer

-- a alone became valid
pub record IsNewSet {Set : Type 0} (v w : View Set) (a : Set) : Type 0 where
  pub fresh : IsFalse (v.valid a)
  pub valid : Valid w a
  pub only : (b : Set) → Valid w b → Valid v b ⊎ (b ≡ a)

-- a has the states of the layer from which the operator leads into the prefix's set, one at least
pub record IsChildSet {Set : Type 0} (v w : View Set) (e : Prefix Set) (op : ℕ) (within a : Set) : Type 0 where
  pub new : IsNewSet v w a
  pub some : (s : State) × (t : State) × JoinsEntry v (Before e) op within s t
  pub means : (s : State) → Has w a s ↔ ((t : State) × JoinsEntry v (Before e) op within s t)

-- the set of the child, or None where there is none
abbrev pub FoundBefore : {Set : Type 0} → View Set → View Set → Prefix Set → ℕ → Set → Option Set → Type 0
FoundBefore v w e op within None = Stays v w × ((s t : State) → ¬ JoinsEntry v (Before e) op within s t)
FoundBefore v w e op within (Some a) = IsChildSet v w e op within a

-- the state of the layer to which the operator leads from s, or None where there is none
abbrev pub LandsIn : {Set : Type 0} → View Set → State → ℕ → Set → Option State → Type 0
LandsIn v s op within None = (t : State) → Leads v.system op s t → ¬ Has v within t
LandsIn v s op within (Some t) = IsState v.task t × Leads v.system op s t × Has v within t

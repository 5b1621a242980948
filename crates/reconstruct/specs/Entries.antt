-- Entries over sets of a space and over states, as as_plain_entry ones; which sets they have.
use Rattle.std.specs.Prelude.{◌≡◌, ℕ, ◌-◌, ◌<◌, ◌≤◌, ◌⊎◌, IsFalse, Bool, ◌||◌, false, List, [], ◌∷◌, ◌++◌, All, Option, Some, None, if◌then◌else◌}
use Rattle.std.specs.List.{AllByRecursion}
use Rattle.task_system.specs.System.{State, System, RunsInSystem}
use Rattle.space_api.specs.View.{View, Valid, Has}
use Rattle.space_api.specs.Frames.{Kept}
use Rattle.run_graph.specs.Reached.{Useful}
use Rattle.cost_layers.specs.Layers.{union_at, Stands as StandsIn}
use Rattle.cost_layers.specs.declared.layers.Layers.{Layers}
use Rattle.plan_cuts.specs.Entries.{PlainEntry, Head, Tail, FwdIn, BwdIn, Tables, StandsOnLayers, into}
use Rattle.reconstruct.specs.declared.entries.Entry.{Entry}
use Rattle.reconstruct.specs.declared.entries.Entry.TheVariants.{Before, After, Partial}

abbrev pub entry_cost : {Set : Type 0} → Entry Set → ℕ
entry_cost (Before e) = e.cost
entry_cost (After e) = e.cost
entry_cost (Partial e) = e.prefix.cost

abbrev pub ring_in : {Set : Type 0} → Entry Set → ℕ
ring_in (Before e) = e.ring
ring_in (After e) = e.ring
ring_in (Partial e) = e.prefix.ring

abbrev pub operators_in : {Set : Type 0} → Entry Set → List ℕ
operators_in (Before e) = e.operators.items
operators_in (After e) = e.operators.items
operators_in (Partial e) = e.prefix.operators.items

-- the entry as a plain one: of a prefix its set's states, also where its children are still to be found
abbrev pub as_plain_entry : {Set : Type 0} → View Set → Entry Set → PlainEntry
as_plain_entry v (Before e) = Head (v.has e.set) e.cost e.ring e.operators.items e.after
as_plain_entry v (After e) = Tail e.cost e.ring e.operators.items
as_plain_entry v (Partial e) = Head (v.has e.prefix.set) e.prefix.cost e.prefix.ring e.prefix.operators.items e.prefix.after

-- whether the test holds of a state of the list
abbrev pub holds_of_some : List State → (State → Bool) → Bool
holds_of_some [] test = false
holds_of_some (s ∷ states) test = test s || holds_of_some states test

-- the child of a prefix by operator k, in the layer of the cost that is left, in ring 0; none where no state leads on
abbrev pub child_by : System → (ℕ → State → Bool) → (State → Bool) → ℕ → List ℕ → ℕ → ℕ → List PlainEntry
child_by y front has cost ops after k = if holds_of_some y.states (into y front has cost k)
    then Head (into y front has cost k) (cost - y.cost k) 0 (k ∷ ops) after ∷ [] else []

-- the children by these operators
abbrev pub children_by : System → (ℕ → State → Bool) → (State → Bool) → ℕ → List ℕ → ℕ → List ℕ → List PlainEntry
children_by y front has cost ops after [] = []
children_by y front has cost ops after (k ∷ ks) = child_by y front has cost ops after k ++ children_by y front has cost ops after ks

-- the plain entries that an entry stands for: itself, or the children that are still to be found
abbrev pub plains_of : {Set : Type 0} → View Set → (ℕ → State → Bool) → Entry Set → List PlainEntry
plains_of v front (Before e) = as_plain_entry v (Before e) ∷ []
plains_of v front (After e) = as_plain_entry v (After e) ∷ []
plains_of v front (Partial e) = children_by v.system front (v.has e.prefix.set) e.prefix.cost e.prefix.operators.items e.prefix.after e.left.items

abbrev pub plains : {Set : Type 0} → View Set → (ℕ → State → Bool) → List (Entry Set) → List PlainEntry
plains v front [] = []
plains v front (e ∷ es) = plains_of v front e ++ plains v front es

-- the operators lead on from each state of the set
abbrev pub LeadOn : {Set : Type 0} → View Set → Set → List ℕ → Type 0
LeadOn v a ops = (s : State) → Has v a s → (t : State) × RunsInSystem v.system s ops t

-- the set of a prefix is valid, and its operators lead on from there; those of a suffix reach its state
abbrev pub EntryOk : {Set : Type 0} → View Set → Entry Set → Type 0
EntryOk v (Before e) = Valid v e.set × LeadOn v e.set e.operators.items
EntryOk v (After e) = RunsInSystem v.system v.system.initial e.operators.items e.state
EntryOk v (Partial e) = Valid v e.prefix.set × LeadOn v e.prefix.set e.prefix.operators.items × All (λ k. k < v.system.operators) e.left.items

-- the entry stands for itself alone, and not for the children of a prefix that are still to be found
abbrev pub IsSingle : {Set : Type 0} → Entry Set → Type 0
IsSingle (Before e) = Unit {0}
IsSingle (After e) = Unit {0}
IsSingle (Partial e) = ⊥

-- a is the set of the entry: a prefix has one, also where its children are still to be found, and a suffix none
abbrev pub HasSet : {Set : Type 0} → Entry Set → Set → Type 0
HasSet (Before e) a = a ≡ e.set
HasSet (After e) a = ⊥
HasSet (Partial e) a = a ≡ e.prefix.set

-- a is the set of an entry of the list
abbrev pub SetIn : {Set : Type 0} → List (Entry Set) → Set → Type 0
SetIn [] a = ⊥
SetIn (e ∷ es) a = HasSet e a ⊎ SetIn es a

-- no two entries have one set
abbrev pub AreDistinct : {Set : Type 0} → List (Entry Set) → Type 0
AreDistinct [] = Unit {0}
AreDistinct {Set} (e ∷ es) = ((a : Set) → HasSet e a → ¬ SetIn es a) × AreDistinct es

-- the set of the entry, where it has one, alone became valid
pub record IsNewEntry {Set : Type 0} (v w : View Set) (e : Entry Set) : Type 0 where
  pub fresh : (a : Set) → HasSet e a → IsFalse (v.valid a)
  pub only : (a : Set) → Valid w a → Valid v a ⊎ HasSet e a

-- the entries were made, each set is new and that of one entry, and no other set became valid
pub record MakesEntries {Set : Type 0} (u v : View Set) (es : List (Entry Set)) : Type 0 where
  pub kept : Kept u v
  pub each : AllByRecursion (EntryOk v) es
  pub distinct : AreDistinct es
  pub fresh : (a : Set) → SetIn es a → IsFalse (u.valid a)
  pub only : (a : Set) → Valid v a → SetIn es a ⊎ Valid u a

abbrev pub in_some : {Set : Type 0} → View Set → Option Set → State → Bool
in_some v None s = false
in_some v (Some a) s = v.has a s

-- s is in the layer of cost c
abbrev pub member_in : {Set : Type 0} → View Set → Layers Set → ℕ → State → Bool
member_in v l c s = in_some v (union_at l c) s

-- rings tell the least number for each useful state
pub record RingsOk {Set : Type 0} (y : System) (v : View Set) (l : Layers Set) (In : ℕ → ℕ → State → Type 0) (known : ℕ) : Type 0 where
  pub sound : (c n : ℕ) (s : State) → c < known → Useful y s → StandsIn v l c n s → In c n s
  pub there : (c n : ℕ) (s : State) → c < known → Useful y s → In c n s → (m : ℕ) × (m ≤ n) × StandsIn v l c m s

-- both sides' layers are right below f and b
pub record RightSides {Set : Type 0} (y : System) (v : View Set) (front back : Layers Set) (f b : ℕ) : Type 0 where
  pub tables : Tables y (member_in v front) (member_in v back) f b
  pub front_rings : RingsOk y v front (FwdIn y) f
  pub back_rings : RingsOk y v back (BwdIn y) b

-- what a turn on an entry rests on
pub record Ready {Set : Type 0} (y : System) (v : View Set) (front back : Layers Set) (f b listed : ℕ) (e : PlainEntry) : Type 0 where
  pub sides : RightSides y v front back f b
  pub stands : StandsOnLayers y f b listed e

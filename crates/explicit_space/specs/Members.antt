-- Sets of states as ordered sets.
use Rattle.std.specs.Prelude.{◌≡◌, ℕ, Bool, IsTrue, List, ◌↔◌, ◌⊎◌}
use Rattle.std.specs.BTreeSet.{BTreeSet, contains}
use Rattle.std.specs.Cmp.Lexicographic.{slice_cmp}
use Rattle.std.specs.Ordering.{nat_cmp}
use Rattle.symk_task.specs.declared.parts.TaskParts.{TaskParts}
use Rattle.symk_task.specs.Variables.{IsState}
use Rattle.task_system.specs.System.{State}

-- an ordered set of states
abbrev pub States : Type 0
States = BTreeSet (List ℕ)

-- whether the state is a member
abbrev pub has_explicit_state : States → State → Bool
has_explicit_state members s = contains (slice_cmp nat_cmp) members s

-- each member is a state of the task
abbrev pub AreStates : TaskParts → States → Type 0
AreStates task members = (s : State) → IsTrue (has_explicit_state members s) → IsState task s

-- the members are the states of which P holds
abbrev pub HasThoseStates : States → (State → Type 0) → Type 0
HasThoseStates members P = (s : State) → IsTrue (has_explicit_state members s) ↔ P s

-- the new members are the old ones and the states of which P holds
abbrev pub GrowsBy : States → States → (State → Type 0) → Type 0
GrowsBy old new P = HasThoseStates new (λ s. IsTrue (has_explicit_state old s) ⊎ P s)

-- s comes from a member of the set
abbrev pub FromMember : States → (State → State → Type 0) → State → Type 0
FromMember members From s = (t : State) × IsTrue (has_explicit_state members t) × From t s

-- s is t, of which P holds
abbrev pub IsIf : Type 0 → State → State → Type 0
IsIf P t s = P × (s ≡ t)

-- The sets of an engine's space before it begins, and how many nodes are held.
use Rattle.std.specs.Prelude.{◌≡◌, ◌+◌, ◌*◌, ◌≤◌, IsFalse}
use Rattle.task_system.specs.System.{State}
use Rattle.run_graph.specs.Reached.{Useful}
use Rattle.space_api.specs.View.{View, Valid, Has}

-- no more is held than twice what was needed last, and 1,000
abbrev pub IsTidyEndSpace : {Set : Type 0} → View Set → Type 0
IsTidyEndSpace v = v.held ≤ 2 * v.last + 1000

-- no set is valid
abbrev pub HasNoSet : {Set : Type 0} → View Set → Type 0
HasNoSet {Set} v = (a : Set) → IsFalse (v.valid a)

-- the set alone is valid
abbrev pub IsOnlyValid : {Set : Type 0} → View Set → Set → Type 0
IsOnlyValid {Set} v within = (a : Set) → Valid v a → a ≡ within

-- the set has each useful state
abbrev pub CoversUseful : {Set : Type 0} → View Set → Set → Type 0
CoversUseful v within = (s : State) → Useful v.system s → Has v within s

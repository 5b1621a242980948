-- Marks that are kept by the numbers of states.
use Rattle.std.specs.Prelude.{◌≡◌, ℕ, ◌⊎◌, List, Option, Some, slice_get}
use Rattle.task_system.specs.System.{State, System}
use Rattle.stubborn_sets.specs.Stubborn.{Stubborn}
use Rattle.stubborn_sets.specs.Closing.{has_mark}
use Rattle.member_plans.specs.declared.kept.Marked.{Marked}

-- all marks that are kept are those of a stubborn set of their state
abbrev pub AreStubborn : System → List (Option Marked) → Type 0
AreStubborn y kept = (n : ℕ) (m : Marked) → slice_get kept n ≡ Some (Some m) → Stubborn y (has_mark m.marks.items) m.state

-- marks of the state are kept at the number
abbrev pub HasMarksAt : List (Option Marked) → ℕ → State → Type 0
HasMarksAt kept n s = (m : Marked) × (slice_get kept n ≡ Some (Some m)) × (m.state ≡ s)

-- no other marks were put in than these
abbrev pub PutsNoOtherMark : List (Option Marked) → List (Option Marked) → Marked → Type 0
PutsNoOtherMark old new marked = (n : ℕ) (m : Marked) → slice_get new n ≡ Some (Some m) → (slice_get old n ≡ Some (Some m)) ⊎ (m ≡ marked)

-- Sets of operators, closed under what their members need.
use Rattle.std.specs.Prelude.{ℕ, ◌<◌, ◌⊎◌, Bool, IsTrue, List, length, slice_get, IsSomeAnd}
use Rattle.symk_task.specs.declared.parts.Fact.{Fact}
use Rattle.symk_task.specs.declared.parts.TaskParts.{TaskParts}
use Rattle.task_run.specs.Values.{AppliesBy}
use Rattle.task_system.specs.Computed.{system_of}
use Rattle.stubborn_sets.specs.Commuting.{Commute}
use Rattle.stubborn_sets.specs.Making.{IsMissingFact}
pub use Rattle.stubborn_sets.specs.Depending.{has_mark, GrowsMarks}
pub use Rattle.stubborn_sets.specs.Barring.{HasMakers, StaysFalse}

-- each operator is marked, or commutes with this one
abbrev pub HasConflicts : TaskParts → ℕ → List Bool → Type 0
HasConflicts task one marks = (a : ℕ) → a < length task.operators → IsTrue (has_mark marks a) ⊎ Commute (system_of task) one a

-- where the operator applies by the values, those that don't commute with it are marked, else one of its missing preconditions stays false before a marked one is applied
abbrev pub HasNeeds : TaskParts → List ℕ → ℕ → List Bool → Type 0
HasNeeds task values one marks =
    IsSomeAnd (slice_get task.operators one) (λ operator.
    (AppliesBy values operator × HasConflicts task one marks) ⊎ ((fact : Fact) × IsMissingFact values operator fact × StaysFalse task values marks fact))

-- each member has what it needs marked
abbrev pub HaveNeeds : TaskParts → List ℕ → List Bool → List Bool → Type 0
HaveNeeds task values members marks = (a : ℕ) → IsTrue (has_mark members a) → HasNeeds task values a marks

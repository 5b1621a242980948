-- Which of the moves from a state are enough.
use Rattle.std.specs.Prelude.{◌≡◌, ℕ, Bool, List}
use Rattle.task_run.specs.Counted.{AreRulesOf}
use Rattle.task_system.specs.System.{State, System}
use Rattle.task_system.specs.Computed.{system_of}
use Rattle.space_api.specs.Listing.{ListsReached}
use Rattle.stubborn_sets.specs.Stubborn.{Stubborn}
use Rattle.stubborn_sets.specs.Closing.{has_mark}
use Rattle.stubborn_sets.specs.Sets.{AreOf}
use Rattle.member_plans.specs.Kept.{AreStubborn, HasMarksAt}
use Rattle.member_plans.specs.declared.moves.Moves.{Moves}

-- it is made for the task of the system, which lists the states that operators reach, and what it keeps is right there
pub record Serves (m : Moves) (y : System) : Type 0 where
  pub system : y ≡ system_of m.task.now
  pub lists : ListsReached y
  pub rules : AreRulesOf m.task.now m.rules
  pub sets : AreOf m.task.now m.sets
  pub kept : AreStubborn y m.kept.items

-- the state's marks are kept at this number
abbrev pub HasMarks : Moves → ℕ → State → Type 0
HasMarks m n s = HasMarksAt m.kept.items n s

-- the moves by marked operators are enough in each state whose marks are kept at this number
abbrev pub AreMarksAt : Moves → ℕ → List Bool → Type 0
AreMarksAt m n marks = (y : System) (s : State) → Serves m y → HasMarks m n s → Stubborn y (has_mark marks) s

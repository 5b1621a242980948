-- A task and sets of its states, by number.
use Rattle.std.specs.Prelude.{◌≡◌, ℕ, Bool, true, false, IsTrue, List, Option, Some, None, slice_index_or}
use Rattle.std.specs.BTreeSet.{BTreeSet}
use Rattle.symk_task.specs.declared.parts.TaskParts.{TaskParts}
use Rattle.symk_task.specs.Variables.{IsState}
use Rattle.symk_task.specs.Plans.{IsInitial}
use Rattle.symk_task.specs.Fits.{Fits}
use Rattle.task_run.specs.declared.counting.Counting.{Counting}
use Rattle.task_run.specs.Counted.{AreRulesOf}
use Rattle.task_system.specs.Computed.{system_of}
use Rattle.space_api.specs.Costs.{costs_of}
use Rattle.explicit_space.specs.Members.{has_explicit_state}

pub record Explicit : Type 0 where
  pub task : TaskParts
  pub sets : List (Option (BTreeSet (List ℕ)))

-- the set of this number, if it is there
abbrev pub explicit_set_at : List (Option (BTreeSet (List ℕ))) → ℕ → Option (BTreeSet (List ℕ))
explicit_set_at sets a = slice_index_or sets a None

abbrev pub is_there : Option (BTreeSet (List ℕ)) → Bool
is_there None = false
is_there (Some members) = true

abbrev pub in_explicit_set : Option (BTreeSet (List ℕ)) → List ℕ → Bool
in_explicit_set None s = false
in_explicit_set (Some members) s = has_explicit_state members s

-- each member of each set is a state
abbrev pub AllStates : TaskParts → List (Option (BTreeSet (List ℕ))) → Type 0
AllStates task sets = (a : ℕ) (s : List ℕ) → IsTrue (in_explicit_set (explicit_set_at sets a) s) → IsState task s

-- what an explicit space keeps true
pub record KeepsExplicit (task : TaskParts) (counting : List Counting) (start listed : List ℕ) (sets : List (Option (BTreeSet (List ℕ)))) : Type 0 where
  pub fits : Fits task
  pub rules : AreRulesOf task counting
  pub initial : IsInitial task start
  pub costs : listed ≡ costs_of (system_of task)
  pub states : AllStates task sets

-- What a queue of prefixes owes with the plan that is held besides.
use Rattle.std.specs.Prelude.{Bool, ◌||◌, List, ℕ, Option}
use Rattle.symk_task.specs.declared.parts.Mode.{Mode}
use Rattle.task_system.specs.System.{System}
use Rattle.lazy_plans.specs.Shell.{OwesHeld, tells_held}
use Rattle.lazy_plans.specs.Queue.{Pending, pending}

-- what the queue owes, and the plan that is held
abbrev pub OwesByPrefix : System → Mode → List (List ℕ) → Option (List ℕ) → List ℕ → Type 0
OwesByPrefix y m es held = OwesHeld (Pending y m es) held

-- the same, computed
abbrev pub tells_owed : System → Mode → List (List ℕ) → Option (List ℕ) → List ℕ → Bool
tells_owed y m es held p = pending y m es p || tells_held held p

-- States that operators reach.
use Rattle.std.specs.Prelude.{ℕ, List, Option, Some, None}
use Rattle.symk_task.specs.Variables.{IsState}
use Rattle.task_system.specs.System.{State, System, Listed, Leads, RunsInSystem}
use Rattle.space_api.specs.View.{View}

-- some list leads from the initial state to s
abbrev pub IsReached : System → State → Type 0
IsReached y s = (p : List ℕ) × RunsInSystem y y.initial p s

-- the state to which the operator leads from s, which is one of the system's; or None where it doesn't apply
abbrev pub GoesTo : {Set : Type 0} → View Set → ℕ → State → Option State → Type 0
GoesTo v op s None = (t : State) → ¬ Leads v.system op s t
GoesTo v op s (Some t) = IsState v.task t × Leads v.system op s t × Listed v.system.states t

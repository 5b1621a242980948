-- The states that runs reach are listed.
use Rattle.std.proofs.Common.{ℕ, List, [], ◌∷◌, subst}
use Rattle.symk_task.specs.declared.parts.TaskParts.{TaskParts}
use Rattle.symk_task.specs.Fits.{Fits}
use Rattle.task_system.specs.System.{State, System, Listed, RunsInSystem}
use Rattle.task_system.specs.Computed.{system_of}
use Rattle.task_system.proofs.RunsLaw.{start_listed, leads_listed}
use Rattle.space_api.specs.Listing.{ListsReached}

-- the system of a task lists them
pub task_lists : (task : TaskParts) → Fits task → ListsReached (system_of task)
task_lists task fits = record { initial = start_listed task fits; steps = λ op s t listed leads. leads_listed task s op t fits listed leads }

-- a run from a listed state ends in one
pub run_listed : (y : System) → ListsReached y → (p : List ℕ) (s t : State) → Listed y.states s → RunsInSystem y s p t → Listed y.states t
run_listed y z [] s t h e = subst (Listed y.states) e h
run_listed y z (op ∷ p) s t h (n, first, rest) = run_listed y z p n t (z.steps op s n h first) rest

-- so does a run from the initial state
pub reached_listed : (y : System) → ListsReached y → (p : List ℕ) (t : State) → RunsInSystem y y.initial p t → Listed y.states t
reached_listed y z p t run = run_listed y z p y.initial t z.initial run

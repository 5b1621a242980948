-- A list of states that misses none that a run reaches.
use Rattle.std.specs.Prelude.{ℕ}
use Rattle.task_system.specs.System.{State, System, Leads, Listed}

-- the initial state is listed, and so is each state to which an operator leads from a listed one
pub record ListsReached (y : System) : Type 0 where
  pub initial : Listed y.states y.initial
  pub steps : (op : ℕ) (s t : State) → Listed y.states s → Leads y op s t → Listed y.states t

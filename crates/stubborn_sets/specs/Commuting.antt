-- When two operators commute.
use Rattle.std.specs.Prelude.{ℕ}
use Rattle.task_system.specs.System.{State, System, Listed, Leads}

-- In every state in which both apply, each applies after the other, and both orders lead to the same state.
pub record Commute (y : System) (a b : ℕ) : Type 0 where
  pub either : (s t u : State) → Listed y.states s → Leads y a s t → Leads y b s u → (v : State) × Leads y b t v × Leads y a u v

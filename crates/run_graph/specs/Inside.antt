-- Runs that stay inside some states, by their cost.
use Rattle.std.specs.Prelude.{◌≡◌, ℕ, IsTrue, List}
use Rattle.task_system.specs.System.{State, System, cost_in_system}
use Rattle.run_graph.specs.Reached.{RunsInside}
use Rattle.run_graph.specs.declared.Side.{Side}
use Rattle.run_graph.specs.declared.Side.TheVariants.{Ahead, Back}

-- a run of this cost whose states are all of P leads from the initial state to s, or from s to the goal
abbrev pub InsideAt : Side → System → (State → Type 0) → ℕ → State → Type 0
InsideAt Ahead y P c s = (p : List ℕ) × RunsInside y P y.initial p s × (cost_in_system y p ≡ c)
InsideAt Back y P c s = (p : List ℕ) × (t : State) × RunsInside y P s p t × IsTrue (y.goal t) × (cost_in_system y p ≡ c)

-- the side that runs come from
abbrev pub other : Side → Side
other Ahead = Back
other Back = Ahead

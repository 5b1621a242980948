-- Whether a list of operators pends, computed.
use Rattle.std.specs.Prelude.{ℕ, Bool, false, ◌&&◌, ◌||◌, not, List, [], ◌∷◌}
use Rattle.symk_task.specs.declared.parts.Mode.TheVariants.{TopK, Unordered}
use Rattle.task_system.specs.System.{State, System, are_equal, same}
use Rattle.lazy_plans.specs.Told.{is_plan_in}

-- the system whose runs begin at s, and whose goal states are those of which the test holds
abbrev pub system_between : System → State → (State → Bool) → System
system_between y s test = record { initial = s; step = y.step; goal = test; cost = y.cost; operators = y.operators; states = y.states }

-- whether the operators lead from s to a state of which the test holds
abbrev pub leads_to : System → State → List ℕ → (State → Bool) → Bool
leads_to y s p test = is_plan_in (system_between y s test) TopK p

-- whether two lists join
abbrev pub joins : System → List ℕ → List ℕ → Bool
joins y x z = same Unordered x z && leads_to y y.initial x (λ s. leads_to y y.initial z (are_equal s))

-- whether a member of the list joins x
abbrev pub is_joined : System → List (List ℕ) → List ℕ → Bool
is_joined y [] x = false
is_joined y (z ∷ es) x = joins y x z || is_joined y es x

-- whether x is a plan that joins no prefix that was opened
abbrev pub pends_node : System → List (List ℕ) → List ℕ → Bool
pends_node y opened p = is_plan_in y TopK p && not (is_joined y opened p)

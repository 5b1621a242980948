-- Transition systems, their runs and plans, and lists of plans.
use Rattle.std.specs.Prelude.{◌≡◌, ℕ, ◌+◌, ◌^◌, ◌<◌, ◌⊎◌, ◌==◌, Bool, true, false, ◌&&◌, IsTrue, List, [], ◌∷◌, ◌++◌, Option, Some, unwrap_or, count_by}
use Rattle.std.specs.List.{list_all}
use Rattle.symk_task.specs.declared.parts.Mode.{Mode}
use Rattle.symk_task.specs.declared.parts.Mode.TheVariants.{TopK, Loopless, Unordered}
use Rattle.symk_task.specs.Plans.{AllDifferent, Same}
use Rattle.task_system.specs.Lists.{IsRightList, AreAllAmong, AreAllBelow, HasPlanFrom}

-- one value for each base variable
abbrev pub State : Type 0
State = List ℕ

-- Where runs begin, where an operator leads if it applies, where the goal holds, what an operator costs, how many operators there are, and each state.
pub record System : Type 0 where
  pub initial : State
  pub step : ℕ → State → Option State
  pub goal : State → Bool
  pub cost : ℕ → ℕ
  pub operators : ℕ
  pub states : List State

-- the state stands in the list
abbrev pub Listed : List State → State → Type 0
Listed [] s = ⊥
Listed (t ∷ states) s = (t ≡ s) ⊎ Listed states s

-- the operator of this number leads from one state to the other
pub record Leads (system : System) (a : ℕ) (s t : State) : Type 0 where
  pub number : a < system.operators
  pub step : system.step a s ≡ Some t

-- the operators lead from one state to the other
abbrev pub RunsInSystem : System → State → List ℕ → State → Type 0
RunsInSystem system s [] t = s ≡ t
RunsInSystem system s (a ∷ p) t = (next : State) × Leads system a s next × RunsInSystem system next p t

-- where the operator leads; the same state where it doesn't apply
abbrev pub next_state : System → ℕ → State → State
next_state system a s = unwrap_or (system.step a s) s

-- the states that the operators pass, the first and the last included
abbrev pub trace : System → State → List ℕ → List State
trace system s [] = s ∷ []
trace system s (a ∷ p) = s ∷ trace system (next_state system a s) p

-- what the operators cost together
abbrev pub cost_in_system : System → List ℕ → ℕ
cost_in_system system [] = 0
cost_in_system system (a ∷ p) = system.cost a + cost_in_system system p

-- the operators lead from the initial state to one where the goal holds
abbrev pub IsSystemPlan : System → List ℕ → Type 0
IsSystemPlan system p = (t : State) × RunsInSystem system system.initial p t × IsTrue (system.goal t)

-- the plans of a mode
abbrev pub IsSystemPlanOf : System → Mode → List ℕ → Type 0
IsSystemPlanOf system TopK p = IsSystemPlan system p
IsSystemPlanOf system Unordered p = IsSystemPlan system p
IsSystemPlanOf system Loopless p = IsSystemPlan system p × AllDifferent (trace system system.initial p)

-- whether two lists are equal
abbrev pub are_equal : List ℕ → List ℕ → Bool
are_equal [] [] = true
are_equal [] (b ∷ q) = false
are_equal (a ∷ p) [] = false
are_equal (a ∷ p) (b ∷ q) = (a == b) && are_equal p q

-- whether two plans count as one
abbrev pub same : Mode → List ℕ → List ℕ → Bool
same TopK p q = are_equal p q
same Loopless p q = are_equal p q
same Unordered p q = list_all (λ a. count_by (λ b. a == b) p == count_by (λ b. a == b) q) (p ++ q)

-- the cheapest plans of a mode, each once, by cost
abbrev pub IsRightOfSystem : System → Mode → List (List ℕ) → Type 0
IsRightOfSystem system mode plans = IsRightList (IsSystemPlanOf system mode) (Same mode) (cost_in_system system) plans

-- each plan of the mode counts as one with a member
abbrev pub AllSystemPlansListed : System → Mode → List (List ℕ) → Type 0
AllSystemPlansListed system mode plans = AreAllAmong (IsSystemPlanOf system mode) (Same mode) plans

-- each plan of the mode whose cost 64 bits hold counts as one with a member
abbrev pub AllSystemPlansInRange : System → Mode → List (List ℕ) → Type 0
AllSystemPlansInRange system mode plans = AreAllBelow (IsSystemPlanOf system mode) (Same mode) (cost_in_system system) (2 ^ 64) plans

-- a plan of the mode costs more than 64 bits hold
abbrev pub HasDearerSystemPlan : System → Mode → Type 0
HasDearerSystemPlan system mode = HasPlanFrom (IsSystemPlanOf system mode) (cost_in_system system) (2 ^ 64)

-- Stubborn sets, and plans rearranged.
use Rattle.std.specs.Prelude.{◌≡◌, ℕ, Bool, IsTrue, List, [], ◌∷◌, ◌++◌, length}
use Rattle.std.specs.List.{AllByRecursion}
use Rattle.symk_task.specs.Plans.{Same}
use Rattle.symk_task.specs.declared.parts.Mode.TheVariants.{Unordered}
use Rattle.task_system.specs.System.{State, System, Leads, RunsInSystem, next_state, cost_in_system}
use Rattle.stubborn_sets.specs.Commuting.{Commute}

-- the operator applies in the state
abbrev pub IsApplicable : System → ℕ → State → Type 0
IsApplicable y a s = (t : State) × Leads y a s t

-- The first operator of the set in a list of operators. It applies in the state, and commutes with each before it.
pub record FirstOf (y : System) (set : ℕ → Bool) (s : State) (p : List ℕ) : Type 0 where
  pub before : List ℕ
  pub first : ℕ
  pub later : List ℕ
  pub here : p ≡ before ++ first ∷ later
  pub inside : IsTrue (set first)
  pub none : AllByRecursion (λ a. ¬ IsTrue (set a)) before
  pub applies : IsApplicable y first s
  pub commutes : AllByRecursion (Commute y first) before

-- each list of operators that leads from the state to the goal, if it has a step, has such a first one
pub record Stubborn (y : System) (set : ℕ → Bool) (s : State) : Type 0 where
  pub first : (a : ℕ) (p : List ℕ) (t : State) → RunsInSystem y s (a ∷ p) t → IsTrue (y.goal t) → FirstOf y set s (a ∷ p)

-- q has the operators of p, each as often, in as many steps, costs the same, and leads from s to t
pub record Rearranges (y : System) (s t : State) (p q : List ℕ) : Type 0 where
  pub runs : RunsInSystem y s q t
  pub same : Same Unordered p q
  pub steps : length q ≡ length p
  pub cost : cost_in_system y q ≡ cost_in_system y p

-- the first operator is in the set
abbrev pub BeginsIn : (ℕ → Bool) → List ℕ → Type 0
BeginsIn set [] = ⊥
BeginsIn set (a ∷ p) = IsTrue (set a)

-- each operator is in the set of the state in which it is applied
abbrev pub StepsInside : System → (State → ℕ → Bool) → State → List ℕ → Type 0
StepsInside y set s [] = Unit {0}
StepsInside y set s (a ∷ p) = IsTrue (set s a) × StepsInside y set (next_state y a s) p

-- each operator is in the set of the operators before it
abbrev pub StepsChosen : (List ℕ → ℕ → Bool) → List ℕ → List ℕ → Type 0
StepsChosen set before [] = Unit {0}
StepsChosen set before (a ∷ p) = IsTrue (set before a) × StepsChosen set (before ++ a ∷ []) p

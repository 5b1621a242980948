-- Runs, plans, and lists of plans.
use Rattle.std.specs.Prelude.{◌≡◌, ◌≢◌, ℕ, ◌-◌, ◌^◌, ◌<◌, ◌≤◌, List, [], ◌∷◌, length, slice_index, slice_get, All, Any, sum, map, count_by, ◌==◌, IfSome}
use Rattle.std.specs.List.Sorted.{IsNonDecreasing}
use Rattle.symk_task.specs.declared.parts.Mode.{Mode}
use Rattle.symk_task.specs.declared.parts.Mode.TheVariants.{TopK, Loopless, Unordered}
use Rattle.symk_task.specs.declared.parts.TaskParts.{TaskParts}
use Rattle.symk_task.specs.Variables.{IsBase, IsState, place}
use Rattle.symk_task.specs.Steps.{Holds, Step, cost_at}

-- the operators lead from one state to the other
unfoldable pub Runs : TaskParts → List ℕ → List ℕ → List ℕ → Type 0
Runs task s [] t = s ≡ t
Runs task s (a ∷ p) t = (next : List ℕ) × Step task s a next × Runs task next p t

-- the states that the operators pass, the first and the last included
unfoldable pub Trace : TaskParts → List ℕ → List ℕ → List (List ℕ) → Type 0
Trace task s [] passed = passed ≡ s ∷ []
Trace task s (a ∷ p) passed = (next : List ℕ) × (rest : List (List ℕ)) × Step task s a next × (passed ≡ s ∷ rest) × Trace task next p rest

-- what the operators cost together
abbrev pub cost_of : TaskParts → List ℕ → ℕ
cost_of task p = sum (map (cost_at task) p)

-- each operator costs 1
abbrev pub IsUnit : TaskParts → Type 0
IsUnit task = (a : ℕ) → a < length task.operators → cost_at task a ≡ 1

-- the values of the initial state
pub record IsInitial (task : TaskParts) (s : List ℕ) : Type 0 where
  pub state : IsState task s
  pub values : (var : ℕ) → IsBase task var → slice_index s (place task var) ≡ slice_index task.initial var

-- the operators lead from the initial state to one where the goal holds
abbrev pub IsPlan : TaskParts → List ℕ → Type 0
IsPlan task p = (s t : List ℕ) × IsInitial task s × Runs task s p t × All (Holds task t) task.goal

-- no two members are equal
abbrev pub AllDifferent : List (List ℕ) → Type 0
AllDifferent [] = Unit {0}
AllDifferent (x ∷ xs) = All (λ y. x ≢ y) xs × AllDifferent xs

-- the plans of a mode
abbrev pub IsPlanOf : TaskParts → Mode → List ℕ → Type 0
IsPlanOf task TopK p = IsPlan task p
IsPlanOf task Unordered p = IsPlan task p
IsPlanOf task Loopless p = IsPlan task p × (s : List ℕ) × (passed : List (List ℕ)) × IsInitial task s × Trace task s p passed × AllDifferent passed

-- which plans count as one
abbrev pub Same : Mode → List ℕ → List ℕ → Type 0
Same TopK p q = p ≡ q
Same Loopless p q = p ≡ q
Same Unordered p q = (a : ℕ) → count_by (λ b. a == b) p ≡ count_by (λ b. a == b) q

-- p counts as one with a member
abbrev pub IsListed : Mode → List (List ℕ) → List ℕ → Type 0
IsListed mode plans p = Any (Same mode p) plans

-- The cheapest plans of a mode, each once, by cost.
pub record IsRight (task : TaskParts) (mode : Mode) (plans : List (List ℕ)) : Type 0 where
  pub each : All (IsPlanOf task mode) plans
  pub different : (i j : ℕ) → i < j → j < length plans → IfSome (slice_get plans i) (λ p. IfSome (slice_get plans j) (λ q. ¬ Same mode p q))
  pub costs : IsNonDecreasing (map (cost_of task) plans)
  pub cheapest : IfSome (slice_get plans (length plans - 1)) (λ dearest. (p : List ℕ) → IsPlanOf task mode p → cost_of task p < cost_of task dearest → IsListed mode plans p)

-- each plan of the mode counts as one with a member
abbrev pub AllListed : TaskParts → Mode → List (List ℕ) → Type 0
AllListed task mode plans = (p : List ℕ) → IsPlanOf task mode p → IsListed mode plans p

-- each plan of the mode whose cost 64 bits hold counts as one with a member
abbrev pub AllInRange : TaskParts → Mode → List (List ℕ) → Type 0
AllInRange task mode plans = (p : List ℕ) → IsPlanOf task mode p → cost_of task p < 2 ^ 64 → IsListed mode plans p

-- a plan of the mode costs more than 64 bits hold
abbrev pub HasDearer : TaskParts → Mode → Type 0
HasDearer task mode = (p : List ℕ) × IsPlanOf task mode p × (2 ^ 64 ≤ cost_of task p)

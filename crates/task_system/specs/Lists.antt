-- Lists of the cheapest plans, whatever a plan is, which plans count as one, and what a plan costs.
use Rattle.std.specs.Prelude.{ℕ, ◌-◌, ◌<◌, ◌≤◌, List, length, slice_get, All, Any, map, IfSome}
use Rattle.std.specs.List.Sorted.{IsNonDecreasing}

-- p counts as one with a member
abbrev pub IsAmong : (List ℕ → List ℕ → Type 0) → List (List ℕ) → List ℕ → Type 0
IsAmong Alike plans p = Any (Alike p) plans

-- The cheapest plans, each once, by cost.
pub record IsRightList (Plan : List ℕ → Type 0) (Alike : List ℕ → List ℕ → Type 0) (cost : List ℕ → ℕ) (plans : List (List ℕ)) : Type 0 where
  pub each : All Plan plans
  pub different : (i j : ℕ) → i < j → j < length plans → IfSome (slice_get plans i) (λ p. IfSome (slice_get plans j) (λ q. ¬ Alike p q))
  pub costs : IsNonDecreasing (map cost plans)
  pub cheapest : IfSome (slice_get plans (length plans - 1)) (λ dearest. (p : List ℕ) → Plan p → cost p < cost dearest → IsAmong Alike plans p)

-- each plan counts as one with a member
abbrev pub AreAllAmong : (List ℕ → Type 0) → (List ℕ → List ℕ → Type 0) → List (List ℕ) → Type 0
AreAllAmong Plan Alike plans = (p : List ℕ) → Plan p → IsAmong Alike plans p

-- each plan that costs less than the limit counts as one with a member
abbrev pub AreAllBelow : (List ℕ → Type 0) → (List ℕ → List ℕ → Type 0) → (List ℕ → ℕ) → ℕ → List (List ℕ) → Type 0
AreAllBelow Plan Alike cost limit plans = (p : List ℕ) → Plan p → cost p < limit → IsAmong Alike plans p

-- a plan costs the limit or more
abbrev pub HasPlanFrom : (List ℕ → Type 0) → (List ℕ → ℕ) → ℕ → Type 0
HasPlanFrom Plan cost limit = (p : List ℕ) × Plan p × (limit ≤ cost p)

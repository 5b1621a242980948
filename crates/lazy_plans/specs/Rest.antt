-- What pends beside a list of plans, and lists that such a list goes on from.
use Rattle.std.specs.Prelude.{ℕ, ◌-◌, ◌<◌, ◌≤◌, ◌↔◌, List, length, slice_get, All, map, IfSome, IsSomeAnd}
use Rattle.std.specs.List.Sorted.{IsNonDecreasing}
use Rattle.symk_task.specs.declared.parts.Mode.{Mode}
use Rattle.symk_task.specs.Plans.{Same, IsListed}
use Rattle.task_system.specs.System.{System, IsSystemPlanOf, cost_in_system}

-- what pends is each plan of the mode that counts as one with no member of the list
abbrev pub Rest : System → Mode → List (List ℕ) → (List ℕ → Type 0) → Type 0
Rest system mode plans pends = (q : List ℕ) → pends q ↔ (IsSystemPlanOf system mode q × ¬ IsListed mode plans q)

-- Plans of the mode by cost, each once. A cheaper plan may be missing.
pub record IsGood (system : System) (mode : Mode) (plans : List (List ℕ)) : Type 0 where
  pub each : All (IsSystemPlanOf system mode) plans
  pub different : (i j : ℕ) → i < j → j < length plans → IfSome (slice_get plans i) (λ p. IfSome (slice_get plans j) (λ q. ¬ Same mode p q))
  pub costs : IsNonDecreasing (map (cost_in_system system) plans)

-- the list is empty, or its last member costs so much at most
abbrev pub EndsBy : System → List (List ℕ) → ℕ → Type 0
EndsBy system plans c = IfSome (slice_get plans (length plans - 1)) (λ last. cost_in_system system last ≤ c)

-- A cheapest plan that counts as one with no member; the last member costs more.
pub record IsMissing (system : System) (mode : Mode) (plans : List (List ℕ)) (p : List ℕ) : Type 0 where
  pub plan : IsSystemPlanOf system mode p
  pub unlisted : ¬ IsListed mode plans p
  pub cheaper : IsSomeAnd (slice_get plans (length plans - 1)) (λ last. cost_in_system system p < cost_in_system system last)
  pub least : (q : List ℕ) → IsSystemPlanOf system mode q → ¬ IsListed mode plans q → cost_in_system system p ≤ cost_in_system system q

-- Earlier lists, which others go on from.
use Rattle.std.specs.Prelude.{◌≡◌, ℕ, ◌-◌, ◌^◌, ◌<◌, ◌≤◌, List, length, map, slice_get, All, Option, IfSome}
use Rattle.std.specs.Option.{option_map_or}
use Rattle.std.specs.List.Sorted.{IsNonDecreasing}
use Rattle.symk_task.specs.declared.parts.Mode.{Mode}
use Rattle.symk_task.specs.declared.parts.TaskParts.{TaskParts}
use Rattle.symk_task.specs.Plans.{IsPlanOf, Same, cost_of}
use Rattle.lazy_plans.specs.Law.{top}
use Rattle.plan_run.specs.declared.earlier.Earlier.{Earlier}

-- what the last plan of a list costs, and 0 where there is none
abbrev pub last_cost : TaskParts → List (List ℕ) → ℕ
last_cost task plans = option_map_or (cost_of task) (slice_get plans (length plans - 1)) 0

-- Plans of the mode by cost, each once, none above the greatest cost that is wanted. A cheaper plan may be missing.
pub record IsEarlier (task : TaskParts) (mode : Mode) (limit : Option ℕ) (earlier : Earlier) : Type 0 where
  pub each : All (IsPlanOf task mode) earlier.plans
  pub different : (i j : ℕ) → i < j → j < length earlier.plans → IfSome (slice_get earlier.plans i) (λ p. IfSome (slice_get earlier.plans j) (λ q. ¬ Same mode p q))
  pub costs : IsNonDecreasing (map (cost_of task) earlier.plans)
  pub cheap : All (λ p. cost_of task p < 2 ^ 64) earlier.plans
  pub within : IfSome limit (λ most. All (λ p. cost_of task p ≤ most) earlier.plans)
  pub last : earlier.dearest ≡ last_cost task earlier.plans
  pub top : earlier.dearest ≤ top limit
  pub few : length earlier.plans < 2 ^ 63

-- What the plans of a list cost.
use Rattle.std.specs.Prelude.{◌≡◌, ℕ, ◌<◌, ◌≤◌, List, length, map, sum, All, Contains, Some, None}
use Rattle.symk_task.specs.declared.parts.Mode.TheVariants.{TopK}
use Rattle.symk_task.specs.declared.parts.TaskParts.{TaskParts}
use Rattle.symk_task.specs.Plans.{cost_of, AllInRange}
use Rattle.plan_out.specs.declared.end.End.TheVariants.{Reached}
use Rattle.plan_run.specs.Lists.{IsListOf}

-- the number is among the others, and none of them is less
abbrev pub IsLeast : List ℕ → ℕ → Type 0
IsLeast numbers least = Contains numbers least × All (λ n. least ≤ n) numbers

-- and none is greater
abbrev pub IsGreatest : List ℕ → ℕ → Type 0
IsGreatest numbers greatest = Contains numbers greatest × All (λ n. n ≤ greatest) numbers

-- the least and the greatest cost of the plans, and the sum
pub record HaveCosts (task : TaskParts) (plans : List (List ℕ)) (cheapest dearest total : ℕ) : Type 0 where
  pub least : IsLeast (map (cost_of task) plans) cheapest
  pub greatest : IsGreatest (map (cost_of task) plans) dearest
  pub all : total ≡ sum (map (cost_of task) plans)

-- no list of fewer than n plans has all of the task whose cost 64 bits hold
abbrev pub HasMorePlans : TaskParts → ℕ → Type 0
HasMorePlans task n = (plans : List (List ℕ)) → length plans < n → ¬ AllInRange task TopK plans

-- 20 plans of the task have these costs
pub record HasPlans (task : TaskParts) (cheapest dearest total : ℕ) : Type 0 where
  pub plans : List (List ℕ)
  pub many : length plans ≡ 20
  pub promise : IsListOf task TopK None plans (Some (Reached 20))
  pub costs : HaveCosts task plans cheapest dearest total

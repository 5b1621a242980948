-- What ranks tell of states.
use Rattle.std.specs.Prelude.{◌≡◌, ℕ, ◌+◌, ◌-◌, ◌<◌, ◌⊎◌, IsTrue, List, Option, Some, None, length}
use Rattle.task_system.specs.System.{State, Leads}
use Rattle.space_api.specs.View.{View}
use Rattle.goal_ranks.specs.declared.parts.Ranked.{Ranked}
use Rattle.goal_ranks.specs.declared.search.GoalRanks.{GoalRanks}
use Rattle.goal_ranks.specs.Sets.{RankAt}
use Rattle.goal_ranks.specs.Ranks.{HasRank}

-- s has no rank
abbrev pub IsOutside : {Set : Type 0} → View Set → GoalRanks Set → State → Type 0
IsOutside v g s = (i x : ℕ) → ¬ HasRank v g i x s

-- an operator leads from s to a state of a rank below i, at the cost between them
pub record LeadsLower {Set : Type 0} (v : View Set) (g : GoalRanks Set) (i x : ℕ) (s : State) : Type 0 where
  pub op : ℕ
  pub state : State
  pub number : ℕ
  pub cost : ℕ
  pub leads : Leads v.system op s state
  pub ranked : HasRank v g number cost state
  pub between : cost + v.system.cost op ≡ x
  pub lower : number < i

-- s is a goal state and costs nothing, or an operator leads to a lower rank
abbrev pub HasWayDown : {Set : Type 0} → View Set → GoalRanks Set → ℕ → ℕ → State → Type 0
HasWayDown v g i x s = ((x ≡ 0) × IsTrue (v.system.goal s)) ⊎ LeadsLower v g i x s

-- what the last set with a rank costs, or None where no set has one
abbrev pub IsNewest : {Set : Type 0} → List (Ranked Set) → Option ℕ → Type 0
IsNewest ranks None = length ranks ≡ 0
IsNewest {Set} ranks (Some x) = (r : Ranked Set) × RankAt ranks (length ranks - 1) r × (r.cost ≡ x)

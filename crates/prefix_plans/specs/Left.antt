-- What is left from a state to the goal, as far as ranks back from there tell it.
use Rattle.std.specs.Prelude.{◌≡◌, ℕ, min, ◌+◌, ◌-◌, ◌≤◌, ◌^◌, Bool, true, false, IsTrue, IsFalse, List, Option, Some, None}
use Rattle.task_system.specs.System.{State, System, RunsInSystem}
use Rattle.space_api.specs.View.{View}
use Rattle.cost_to_go.specs.Standing.{HasRankToGo, next_key_of, to_go_ranks}
use Rattle.cost_to_go.specs.Telling.{CostsAtLeast, LeadsNowhere}
use Rattle.cost_to_go.specs.declared.search.CostToGo.{CostToGo}
use Rattle.prefix_plans.specs.declared.left.Left.{Left}

-- what is known now: the least key of what waits for a rank, if something does, and how many ranks there are
pub record KnownToGo : Type 0 where
  pub next : Option ℕ
  pub many : ℕ

abbrev pub known_to_go : {Set : Type 0} → CostToGo Set → KnownToGo
known_to_go f = record { next = next_key_of f; many = to_go_ranks f }

-- s is ranked: its cost to go is c, by the rank of number i
abbrev pub IsRanked : {Set : Type 0} → View Set → CostToGo Set → ℕ → ℕ → State → Type 0
IsRanked v f c i s = HasRankToGo v f i c s

-- no list from the end of the prefix to the goal costs less
abbrev pub PrefixEndsAtLeast : System → List ℕ → ℕ → Type 0
PrefixEndsAtLeast y e c = (s : State) → RunsInSystem y y.initial e s → CostsAtLeast y s c

-- some list leads from s to the goal
abbrev pub LeadsOn : System → State → Type 0
LeadsOn y s = (p : List ℕ) × (t : State) × RunsInSystem y s p t × IsTrue (y.goal t)

-- The least that is left from a state without a rank to which operators lead at cost g: by the least key of what waits; and
-- where nothing does more than 64 bits hold, or None where no arc was past them.
abbrev pub least_unranked : Option ℕ → Bool → ℕ → Option ℕ
least_unranked (Some n) beyond g = Some (min (n - g) (2 ^ 64))
least_unranked None true g = Some (2 ^ 64)
least_unranked None false g = None

-- the least bound of a prefix of cost g whose last state has no rank
abbrev pub bound_at : Option ℕ → ℕ → ℕ
bound_at None g = g + 2 ^ 64
bound_at (Some n) g = min n (g + 2 ^ 64)

-- What is known of what is left from s, to which operators lead at cost g: its least cost and the number of its rank, where
-- it has one; else all ranks were looked at, and no less is left than the search knows.
pub record IsKnown {Set : Type 0} (v : View Set) (f : CostToGo Set) (g : ℕ) (s : State) (left : Left) : Type 0 where
  pub least : CostsAtLeast v.system s left.cost
  pub small : left.cost ≤ 2 ^ 64
  pub seen : left.ring ≤ to_go_ranks f
  pub ranked : IsTrue left.ranked → IsRanked v f left.cost left.ring s
  pub told : (c i : ℕ) → IsRanked v f c i s → IsTrue left.ranked × (left.cost ≡ c) × (left.ring ≡ i)
  pub newest : IsFalse left.ranked → (to_go_ranks f ≤ left.ring) × (bound_at (next_key_of f) g ≤ g + left.cost)

abbrev pub IsEndLeft : {Set : Type 0} → View Set → CostToGo Set → ℕ → State → Option Left → Type 0
IsEndLeft v f g s None = LeadsNowhere v.system s
IsEndLeft v f g s (Some left) = IsKnown v f g s left

-- The different costs of a system's operators, rising.
use Rattle.std.specs.Prelude.{◌≡◌, ℕ, zero, suc, ◌<◌, nat_lt, ◌==◌, if◌then◌else◌, List, [], ◌∷◌, length, slice_index}
use Rattle.std.specs.List.Sorted.{IsStrictlyIncreasing}
use Rattle.task_system.specs.System.{System}

-- The list rises, and has the cost of each operator and no other number.
pub record AreCosts (y : System) (costs : List ℕ) : Type 0 where
  pub rising : IsStrictlyIncreasing costs
  pub all : (op : ℕ) → op < y.operators → (i : ℕ) × (i < length costs) × (slice_index costs i ≡ y.cost op)
  pub only : (i : ℕ) → i < length costs → (op : ℕ) × (op < y.operators) × (y.cost op ≡ slice_index costs i)

-- a number in its place among rising ones, unless it stands there
abbrev pub with_cost : ℕ → List ℕ → List ℕ
with_cost c [] = c ∷ []
with_cost c (x ∷ xs) = if nat_lt c x then c ∷ x ∷ xs else (if c == x then x ∷ xs else x ∷ with_cost c xs)

-- the different costs of the first so many operators, rising
unfoldable pub costs_below : (ℕ → ℕ) → ℕ → List ℕ
costs_below cost zero = []
costs_below cost (suc n) = with_cost (cost n) (costs_below cost n)

-- the different costs of all operators, rising
abbrev pub costs_of : System → List ℕ
costs_of y = costs_below y.cost y.operators

-- the list just defined is one, and there is no other
abbrev pub CostsAreListed : Type 0
CostsAreListed = (y : System) → AreCosts y (costs_of y) × ((costs : List ℕ) → AreCosts y costs → costs ≡ costs_of y)

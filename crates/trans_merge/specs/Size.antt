-- How many nodes an Id reaches.
use Rattle.std.specs.Prelude.{ℕ, ◌≤◌, [], ◌∷◌, List, length}
use Rattle.bdd_table.specs.declared.node.Node.{Node}
use Rattle.bdd_table.specs.Collected.{AreReached}

-- the Id reaches at most so many nodes: it is one of them, and the constants are none
abbrev pub HasAtMost : List Node → ℕ → ℕ → Type 0
HasAtMost nodes id most = (ids : List ℕ) × AreReached nodes (id ∷ []) ids × (length ids ≤ most)

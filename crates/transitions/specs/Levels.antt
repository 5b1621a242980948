-- The levels of the state, and of the state that a step leads to.
use Rattle.std.specs.Prelude.{ℕ, List, map}
use Rattle.bdd_table.specs.Diagram.{Bits}
use Rattle.bdd_ops.specs.Renamed.{seen_by}
use Rattle.var_order.specs.Layout.{level_at}

-- the levels of places: `next` is 0 for the state, and 1 for the state that a step leads to
abbrev pub levels_at : ℕ → List ℕ → List ℕ
levels_at next places = map (λ p. level_at next p) places

-- the pairs that lead from the levels of one kind to those of the other
abbrev pub pairs_from : ℕ → ℕ → List ℕ → List (ℕ × ℕ)
pairs_from from to places = map (λ p. (level_at from p, level_at to p)) places

-- The bits of the state that a step leads to: at the touched places those of the next levels, at all others those of the state.
abbrev pub stepped : List ℕ → Bits → Bits
stepped places b = seen_by (pairs_from 0 1 places) b

-- The same steps over more touched places.
use Rattle.std.specs.Prelude.{◌≡◌, ℕ, ◌<◌, ◌||◌, not, Bool, true, false, List}
use Rattle.std.specs.List.{filter, range_with_len}
use Rattle.bdd_table.specs.Diagram.{Bits}
use Rattle.bdd_ops.specs.Quantified.{is_in}
use Rattle.var_order.specs.Layout.{Layout, bits, level_at}
use Rattle.transitions.specs.NextValues.{agree}

-- the places of a state that are in either list, rising
abbrev pub united : Layout → List ℕ → List ℕ → List ℕ
united o a b = filter (λ p. is_in a p || is_in b p) (range_with_len 0 (bits o))

-- the next bit at the place is the state's, if the place is one of `wide` but not of `own`
abbrev pub stays_at : List ℕ → List ℕ → Bits → ℕ → Bool
stays_at own wide b p = (is_in own p || not (is_in wide p)) || agree (b (level_at 0 p)) (b (level_at 1 p))

-- at all places of `wide` that are not of `own` the next bits are the state's
abbrev pub Stay : Layout → List ℕ → List ℕ → Bits → Type 0
Stay o own wide b = (p : ℕ) → p < bits o → is_in wide p ≡ true → is_in own p ≡ false → b (level_at 1 p) ≡ b (level_at 0 p)

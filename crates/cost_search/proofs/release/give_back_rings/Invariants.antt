use Rattle.std.proofs.Common.{ℕ, ◌<◌}
use Rattle.space_api.specs.Owned.{Trades}
use Rattle.cost_layers.specs.Layers.{rings_at, IsRing}
use Rattle.cost_search.proofs.release.give_back_rings.Given as goal

abbrev pub invariant-rings : goal.invariant-rings
invariant-rings g l =
    let view = g.S.Space.view in
    Trades (view l.fn.space) (view l.space) (λ a. (j : ℕ) × (j < l.i) × IsRing (rings_at l.layers) l.cost j a) (λ a. ⊥)

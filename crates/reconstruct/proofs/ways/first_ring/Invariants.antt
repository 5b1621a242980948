use Rattle.std.proofs.Common.{ℕ, ◌<◌}
use Rattle.cost_layers.specs.Layers.{Stands as StandsIn}
use Rattle.reconstruct.proofs.ways.first_ring.Given as goal

abbrev pub invariant-loop-i : goal.invariant-loop-i
invariant-loop-i g l = (k : ℕ) → k < l.i → ¬ StandsIn (g.S.Space.view l.space) l.layers l.cost k l.state

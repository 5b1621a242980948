use Rattle.space_api.specs.Owned.{Trades}
use Rattle.cost_layers.proofs.PartsBack.{IsRingIn}
use Rattle.cost_layers.proofs.release.forget_rings.Given as goal

abbrev pub invariant-loop-i : goal.invariant-loop-i
invariant-loop-i g l = Trades (g.S.Space.view l.fn.space) (g.S.Space.view l.space) (IsRingIn l.start l.i l.rings) (λ a. ⊥)

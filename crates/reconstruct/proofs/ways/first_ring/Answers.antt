use Rattle.std.proofs.Common.{arith}
use Rattle.reconstruct.proofs.Joining.{first_only, first_some}
use Rattle.reconstruct.proofs.ways.first_ring.Goals as goal

pub returns-then-rings-lt2 : goal.returns-then-rings-lt2
returns-then-rings-lt2 g c = first_only (g.S.Space.view c.args.space.now) c.args.layers.now c.args.cost c.args.state.now (omega (arith, c.rings-rings.ensures))

pub returns-then-in_ring : goal.returns-then-in_ring
returns-then-in_ring g c = first_some (g.S.Space.view c.args.space.now) c.args.layers.now c.args.cost c.args.state.now
    c.loop-i.i (c.in_ring.ensures.0 c.if-in_ring.true) c.loop-i.invariant

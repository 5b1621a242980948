use Rattle.std.proofs.Common.{arith}
use Rattle.reconstruct.proofs.Joining.{least_first, least_some, least_none}
use Rattle.reconstruct.proofs.ways.least_ring.Goals as goal

pub returns-in-Some-clause-ok : goal.returns-in-Some-clause-ok
returns-in-Some-clause-ok g c = least_some (g.S.Space.view c.args.space.now) c.args.layers.now c.args.cost c.args.set
    c.in-Some.ring (rw c.in-Some.is at c.in_ok-ring.ensures.ok)

pub returns-in-None-clause-ok : goal.returns-in-None-clause-ok
returns-in-None-clause-ok g c = least_none (g.S.Space.view c.args.space.now) c.args.layers.now c.args.cost c.args.set
    0 (rw c.in-None.is at c.in_ok-ring.ensures.ok)

pub returns-then-rings-lt2-clause-ok : goal.returns-then-rings-lt2-clause-ok
returns-then-rings-lt2-clause-ok g c = least_first (g.S.Space.view c.args.space.now) c.args.layers.now c.args.cost c.args.set (omega (arith, c.rings.ensures))

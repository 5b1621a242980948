use Rattle.std.proofs.Common.{arith}
use Rattle.cost_layers.proofs.PartsBack.{none_yet, next_valid, one_back, rings_back, read_at}
use Rattle.cost_layers.proofs.release.forget_rings.Goals as goal

pub forget-requires : goal.forget-requires
forget-requires g c = next_valid c.args.start c.loop-i.i c.args.rings.now c.index-rings-i.result c.loop-i.auto.i
    (read_at c.args.rings.now c.loop-i.i c.index-rings-i.result c.loop-i-test.true c.index-rings-i.is)
    c.loop-i.invariant c.requires.once c.requires.parts

pub loop-i-init : goal.loop-i-init
loop-i-init g c = none_yet (g.S.Space.view c.args.space.now) c.args.start c.args.rings.now

pub loop-i-preserved : goal.loop-i-preserved
loop-i-preserved g c = one_back c.args.start c.loop-i.i c.args.rings.now c.index-rings-i.result c.loop-i.auto.i
    (read_at c.args.rings.now c.loop-i.i c.index-rings-i.result c.loop-i-test.true c.index-rings-i.is)
    c.loop-i.invariant c.forget.ensures

pub returns : goal.returns
returns g c = rings_back c.args.start c.loop-i.i c.args.rings.now (omega (arith, c.loop-i-test.false)) c.loop-i.invariant

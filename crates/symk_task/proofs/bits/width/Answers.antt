use Rattle.std.proofs.Common.{below_more, arith}
use Rattle.symk_task.proofs.Widths.{width_is, far_width, shifted}
use Rattle.symk_task.proofs.bits.width.Goals as goal

pub returns-then-values-bits-clause-value : goal.returns-then-values-bits-clause-value
returns-then-values-bits-clause-value c = width_is c.args.values c.loop-bits.bits
    (let e = shifted c.loop-bits.bits c.loop-bits-test.true in omega (arith, e, c.if-values-bits.true))
    c.loop-bits.invariant

pub loop-bits-preserved : goal.loop-bits-preserved
loop-bits-preserved c = below_more _ _ c.loop-bits.invariant
    (let e = shifted c.loop-bits.bits c.loop-bits-test.true in omega (arith, e, c.if-values-bits.false))

pub returns-clause-value : goal.returns-clause-value
returns-clause-value c = far_width c.args.values c.loop-bits.bits (omega arith) (omega arith) c.loop-bits.invariant

use Rattle.std.proofs.Common.{arith}
use Rattle.sas_reader.proofs.Widths.{width_begins, width_goes_on, width_is}
use Rattle.sas_reader.proofs.variables.width_of.Goals as goal

pub loop-power-init : goal.loop-power-init
loop-power-init c = record { few = omega arith; small = omega arith; so_far = width_begins c.args.values }

pub loop-power-preserved : goal.loop-power-preserved
loop-power-preserved c = record {
  few = omega arith;
  small = omega arith;
  so_far = width_goes_on c.args.values c.loop-power.bits c.loop-power.power c.loop-power-test.true c.loop-power.invariant.few c.loop-power.invariant.so_far;
}

pub returns-clause-width : goal.returns-clause-width
returns-clause-width c = width_is c.args.values c.loop-power.bits c.loop-power.power c.loop-power-test.false c.loop-power.invariant.so_far

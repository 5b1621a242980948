use Rattle.std.proofs.Common.{arith}
use Rattle.symk_text.proofs.Digits.{nothing_read, too_large, all_read}
use Rattle.symk_text.proofs.numbers.value_of.Goals as goal

pub loop-digit-init : goal.loop-digit-init
loop-digit-init c = record { fits = omega arith; so_far = nothing_read c.args.digits.now }

pub returns-in_err-checked_mul : goal.returns-in_err-checked_mul
returns-in_err-checked_mul c =
    rw c.from_residual.ensures (too_large c.loop-digit.value c.args.digits.now c.loop-digit.digit-index
    c.loop-digit-test.true c.loop-digit.invariant.so_far (omega (arith, c.in_err-checked_mul.ensures)))

pub returns-in_err-value : goal.returns-in_err-value
returns-in_err-value c =
    rw c.from_residual-in_err-value.ensures (too_large c.loop-digit.value c.args.digits.now c.loop-digit.digit-index
    c.loop-digit-test.true c.loop-digit.invariant.so_far (omega (arith, c.in_err-value.ensures)))

pub returns : goal.returns
returns c = all_read c.loop-digit.value c.args.digits.now c.loop-digit.digit-index c.loop-digit-test.false
    c.loop-digit.invariant.fits c.loop-digit.invariant.so_far

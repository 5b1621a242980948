use Rattle.std.proofs.Common.{arith}
use Rattle.symk_text.proofs.Digits.{run_is, all_digits}
use Rattle.symk_text.proofs.numbers.digits_of.Goals as goal
use Rattle.symk_text.proofs.numbers.digits_of.Goals.{then-loop-count-test+else-is_ascii_digit, else-loop-count-test}

pub returns-clause-run : goal.returns-clause-run
returns-clause-run c = run_is c.args.bytes.now c.loop-count.count (omega arith) c.loop-count.invariant.digits (λ lt.
    elim c.loop-count-test.branch [
      | then-loop-count-test+else-is_ascii_digit w ↦ (let e = w.is_ascii_digit.ensures.value in let f = w.if-is_ascii_digit.false in cc)
      | else-loop-count-test w ↦ absurd (omega arith)
    ])

pub returns-clause-digits : goal.returns-clause-digits
returns-clause-digits c = all_digits c.args.bytes.now c.loop-count.count (omega arith) c.loop-count.invariant.digits

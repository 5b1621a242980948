use Rattle.std.proofs.Common.{◌∙◌, arith, ap, sym, drop, ℕ}
use Rattle.std.proofs.lemmas.List.{take_rest}
use Rattle.std.proofs.lemmas.List.Sums.{prefix_len_is}
use Rattle.sas_reader.specs.Numbers.{is_blank_byte}
use Rattle.sas_reader.proofs.numbers.without_blanks.Goals as goal
use Rattle.sas_reader.proofs.numbers.without_blanks.Goals.{then-loop-count-test+else-is_blank_byte, else-loop-count-test}

pub returns : goal.returns
returns c = take_rest c.args.line.now c.loop-count.count ∙ ap (λ (n : ℕ). drop n c.args.line.now)
    (sym (prefix_len_is is_blank_byte c.args.line.now c.loop-count.count 0 (omega arith)
    c.loop-count.invariant.passed (λ lt.
    elim c.loop-count-test.branch [
      | then-loop-count-test+else-is_blank_byte w ↦ (let t = w.if-is_blank_byte.false in sym w.is_blank_byte.ensures ∙ t)
      | else-loop-count-test w ↦ absurd (omega arith)
    ])))

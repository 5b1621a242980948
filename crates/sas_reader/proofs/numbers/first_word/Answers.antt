use Rattle.std.proofs.Common.{◌∙◌, arith, ap, sym, not, take, ℕ}
use Rattle.std.proofs.lemmas.List.Sums.{prefix_len_is}
use Rattle.sas_reader.specs.Numbers.{is_blank_byte}
use Rattle.sas_reader.proofs.WordsLeft.{is_inked}
use Rattle.sas_reader.proofs.numbers.first_word.Goals as goal
use Rattle.sas_reader.proofs.numbers.first_word.Goals.{then-loop-count-test+else-not-is_blank_byte, else-loop-count-test}

pub returns-clause-word : goal.returns-clause-word
returns-clause-word c = ap (λ (n : ℕ). take n c.args.line.now)
    (sym (prefix_len_is is_inked c.args.line.now c.loop-count.count 0 (omega arith)
    (λ k lt. ap not (c.loop-count.invariant.passed k lt)) (λ lt.
    elim c.loop-count-test.branch [
      | then-loop-count-test+else-not-is_blank_byte w ↦ (let t = w.if-not-is_blank_byte.false in ap not (sym w.is_blank_byte.ensures ∙ t))
      | else-loop-count-test w ↦ absurd (omega arith)
    ])))

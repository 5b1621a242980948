use Rattle.std.proofs.Common.{◌∙◌, ap, sym, arith, ◌<◌, ◌^◌}
use Rattle.symk_text.specs.Numbers.{number_at}
use Rattle.symk_cli.proofs.Asked.{read_none, read_some, read_other}
use Rattle.symk_cli.proofs.request.number_within.Goals as goal
use Rattle.symk_cli.proofs.request.number_within.Goals.{else-end-word-via-then-end-word+then-least-value+else-value-most, else-end-word-via-then-end-word+else-least-value, else-end-word-via-else-end-word}

pub returns-in_err-value-clause-number : goal.returns-in_err-value-clause-number
returns-in_err-value-clause-number c =
    let small : c.args.most < 2 ^ 64 = omega arith in
    c.from_residual.ensures ∙ sym (read_none c.args.least c.args.most c.args.word.now small (ap (λ w. number_at w 0) (sym c.as_bytes.ensures.value) ∙ sym c.in_err-value.ensures))

pub returns-then-value-most-clause-number : goal.returns-then-value-most-clause-number
returns-then-value-most-clause-number c =
    let small : c.args.most < 2 ^ 64 = omega arith in
    sym (read_some c.args.least c.args.most c.args.word.now c.in_ok-value.value c.in_ok-value.end small (ap (λ w. number_at w 0) (sym c.as_bytes.ensures.value) ∙ sym c.in_ok-value.ensures) c.if-end-word.true c.if-least-value.true c.if-value-most.true)

pub returns-else-end-word-clause-number : goal.returns-else-end-word-clause-number
returns-else-end-word-clause-number c =
    let small : c.args.most < 2 ^ 64 = omega arith in
    sym (read_other c.args.least c.args.most c.args.word.now c.in_ok-value.value c.in_ok-value.end small (ap (λ w. number_at w 0) (sym c.as_bytes.ensures.value) ∙ sym c.in_ok-value.ensures)
    (λ whole low high. elim c.else-end-word.branch [
      | else-end-word-via-then-end-word+then-least-value+else-value-most w ↦ omega (arith, high)
      | else-end-word-via-then-end-word+else-least-value w ↦ omega (arith, low)
      | else-end-word-via-else-end-word w ↦ w.if-end-word.false whole
    ]))

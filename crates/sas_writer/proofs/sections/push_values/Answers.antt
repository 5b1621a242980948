use Rattle.std.proofs.Common.{◌++◌, ◌∷◌, [], get_or, sym, ap, ◌∙◌}
use Rattle.std.specs.Prelude.{decimal}
use Rattle.std.proofs.lemmas.List.{get_or_default}
use Rattle.sas_writer.proofs.Growth.{line_more}
use Rattle.sas_writer.proofs.sections.push_values.Goals as goal

pub loop-value-preserved : goal.loop-value-preserved
loop-value-preserved c =
    let values = c.as_slice-value-items.result.now in
    let i = c.loop-value.value-index in
    let value = get_or values i 0 in
    c.in_ok-push_number_line.ensures ∙ ap (λ n. c.loop-value.text ++ (decimal n ++ 10 ∷ [])) c.from.ensures
    ∙ ap (λ t. t ++ (decimal value ++ 10 ∷ [])) c.loop-value.invariant
    ∙ sym (line_more decimal c.args.text.now values i value c.loop-value-test.true (get_or_default values i 0 value c.loop-value-test.true))

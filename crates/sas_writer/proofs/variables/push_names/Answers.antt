use Rattle.std.proofs.Common.{◌++◌, ◌∷◌, [], sym, ap, ◌∙◌}
use Rattle.sas_writer.specs.Spelling.{name_line}
use Rattle.sas_writer.proofs.Growth.{line_more}
use Rattle.sas_writer.proofs.variables.push_names.Goals as goal

pub loop-name-preserved : goal.loop-name-preserved
loop-name-preserved c =
    c.in_ok-push_name.ensures ∙ ap (λ t. t ++ (name_line c.name-item.result ++ 10 ∷ [])) c.loop-name.invariant
    ∙ sym (line_more name_line c.args.text.now c.args.names.now c.loop-name.name-index c.name-item.result
    c.loop-name-test.true c.name-item.is)

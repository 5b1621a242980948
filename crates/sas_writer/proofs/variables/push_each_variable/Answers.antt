use Rattle.std.proofs.Common.{◌++◌, sym, ap, ◌∙◌}
use Rattle.sas_writer.specs.Spelling.{text_of}
use Rattle.sas_writer.specs.TaskLines.{variable_lines}
use Rattle.sas_writer.proofs.Growth.{lines_more}
use Rattle.sas_writer.proofs.variables.push_each_variable.Goals as goal

pub loop-variable-preserved : goal.loop-variable-preserved
loop-variable-preserved c =
    c.in_ok-push_variable.ensures ∙ ap (λ t. t ++ (text_of (variable_lines c.variable-item.result)))
    c.loop-variable.invariant ∙ sym (lines_more variable_lines c.args.text.now c.args.variables.now
    c.loop-variable.variable-index c.variable-item.result c.loop-variable-test.true c.variable-item.is)

use Rattle.std.proofs.Common.{◌++◌, sym, ap, ◌∙◌}
use Rattle.sas_writer.specs.Spelling.{text_of}
use Rattle.sas_writer.specs.TaskLines.{rule_lines}
use Rattle.sas_writer.proofs.Growth.{lines_more}
use Rattle.sas_writer.proofs.rules.push_each_rule.Goals as goal

pub loop-rule-preserved : goal.loop-rule-preserved
loop-rule-preserved c =
    c.in_ok-push_rule.ensures ∙ ap (λ t. t ++ (text_of (rule_lines c.rule-item.result))) c.loop-rule.invariant
    ∙ sym (lines_more rule_lines c.args.text.now c.args.rules.now c.loop-rule.rule-index c.rule-item.result
    c.loop-rule-test.true c.rule-item.is)

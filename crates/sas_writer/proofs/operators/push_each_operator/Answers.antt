use Rattle.std.proofs.Common.{◌<◌, ◌^◌, ◌++◌, sym, ap, subst, ◌∙◌}
use Rattle.std.proofs.lemmas.List.Elements.{All-more}
use Rattle.symk_task.specs.declared.parts.Operator.{Operator}
use Rattle.sas_writer.specs.Spelling.{text_of}
use Rattle.sas_writer.specs.TaskLines.{operator_lines}
use Rattle.sas_writer.proofs.Growth.{lines_more}
use Rattle.sas_writer.proofs.operators.push_each_operator.Goals as goal

pub loop-operator-preserved : goal.loop-operator-preserved
loop-operator-preserved c =
    let operator = c.operator-item.result in (
      c.in_ok-push_operator.ensures.lines ∙ ap (λ t. t ++ (text_of (operator_lines operator)))
          c.loop-operator.invariant.0 ∙ sym (lines_more operator_lines c.args.text.now c.args.operators.now
          c.loop-operator.operator-index operator c.loop-operator-test.true c.operator-item.is),
      All-more (λ (o : Operator). o.cost < 2 ^ 64) c.args.operators.now c.loop-operator.operator-index operator
          c.loop-operator-test.true c.loop-operator.invariant.1
          (subst (λ (o : Operator). o.cost < 2 ^ 64) c.operator-item.is c.in_ok-push_operator.ensures.cost),
    )

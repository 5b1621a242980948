use Rattle.std.proofs.Common.{◌++◌, get_or, sym, ap, ◌∙◌}
use Rattle.plan_out.specs.Texts.{step_line}
use Rattle.plan_out.proofs.Growth.{one_more}
use Rattle.plan_out.proofs.print.push_steps.Goals as goal

pub loop-i-preserved : goal.loop-i-preserved
loop-i-preserved c =
    let task = c.args.task.now in
    let operators = c.args.operators.now in
    let i = c.loop-i.i in
    c.in_ok-push_step.ensures ∙ ap (λ t. t ++ step_line task (get_or operators i 0)) c.loop-i.invariant
    ∙ sym (one_more (step_line task) c.args.text.now operators i 0 c.loop-i-test.true)

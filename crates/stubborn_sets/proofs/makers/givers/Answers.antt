use Rattle.std.proofs.Common.{List, ℕ, ◌≡◌, ◌<◌, length, sym, subst, ap, ◌∙◌, arith}
use Rattle.std.specs.List.{All, Contains}
use Rattle.symk_task.specs.declared.parts.Effect.{Effect}
use Rattle.symk_task.specs.declared.parts.Operator.{Operator}
use Rattle.symk_task.specs.declared.parts.TaskParts.{TaskParts}
use Rattle.task_run.proofs.Stepping.{operator_at}
use Rattle.stubborn_sets.specs.Kept.{list_at, number_of, given_by, givers_of, AreGiversBelow}
use Rattle.stubborn_sets.proofs.KeptLaw.{givers_more}
use Rattle.stubborn_sets.proofs.makers.givers.Goals as goal

pub loop-op-preserved : goal.loop-op-preserved
loop-op-preserved c =
    let task = c.args.task.now in
    let op = c.loop-op.op in
    let operator = c.index-operators-op.result in
    let all = c.as_slice-operators.ensures ∙ ap (λ (z : TaskParts). z.operators) c.parts.ensures.value in
    let lt : op < length task.operators = omega (arith, c.loop-op-test.true, c.operators-op-end.ensures) in
    let here = (operator_at task c.as_slice-operators.result.now op operator c.parts.ensures.fits all lt c.index-operators-op.is).0 in
    let effects = c.as_slice-effects.ensures ∙ ap (λ (o : Operator). o.effects) (sym c.index-operators-op.is) in
    givers_more task c.args.firsts.now op operator (list_at c.loop-op.given) (list_at c.add_effects.new.given) here
    c.loop-op.invariant c.in_ok-add_effects.ensures.adds
    (subst (λ (z : List Effect). All (λ (e : Effect). Contains
    (list_at c.add_effects.new.given (number_of c.args.firsts.now (given_by e))) op) z) effects
    c.in_ok-add_effects.ensures.has)

pub returns : goal.returns
returns c =
    let end : c.loop-op.op ≡ length c.args.task.now.operators = omega (arith, c.operators-op-end.ensures, c.loop-op-test.false, c.loop-op.auto.op-end) in
    subst (λ (n : ℕ). AreGiversBelow c.args.task.now n (givers_of c.args.firsts.now c.loop-op.given)) end c.loop-op.invariant

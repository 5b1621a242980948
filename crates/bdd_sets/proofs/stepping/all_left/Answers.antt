use Rattle.std.proofs.Common.{◌≡◌, ℕ, ◌+◌, List, length, sym, subst, arith}
use Rattle.symk_task.specs.declared.parts.Fact.{Fact}
use Rattle.bdd_sets.specs.Steps.{IsLeft}
use Rattle.bdd_sets.proofs.FactLists.{FactsBelow, facts_more, facts_all}
use Rattle.bdd_sets.proofs.stepping.all_left.Goals as goal

pub loop-operator-preserved : goal.loop-operator-preserved
loop-operator-preserved c =
    subst (λ (lists : List (List Fact)). FactsBelow IsLeft c.args.operators.now lists (c.loop-operator.operator-index + 1)) (sym c.in_ok-push.ensures.items)
    (facts_more IsLeft c.args.operators.now c.loop-operator.lists.items c.loop-operator.operator-index c.operator-item.result c.in_ok-left.field-0
    (let t = c.loop-operator-test.true in omega (arith, t)) c.operator-item.is c.loop-operator.invariant c.in_ok-left.ensures)

pub returns : goal.returns
returns c =
    let all : c.loop-operator.operator-index ≡ length c.args.operators.now =
    (let t = c.loop-operator-test.false in let e = c.loop-operator.auto.operator-index-end in omega
    (arith, t, e)) in
    facts_all IsLeft c.args.operators.now c.loop-operator.lists.items
    (subst (λ (n : ℕ). FactsBelow IsLeft c.args.operators.now c.loop-operator.lists.items n) all
    c.loop-operator.invariant)

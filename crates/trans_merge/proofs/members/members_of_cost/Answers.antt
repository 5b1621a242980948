use Rattle.std.proofs.Common.{◌≡◌, ℕ, ◌<◌, List, [], length, sym, subst, arith}
use Rattle.symk_task.specs.Steps.{Step}
use Rattle.transitions.specs.declared.relations.Relation.{Relation}
use Rattle.trans_merge.specs.Steps.{HasSteps, HaveSteps}
use Rattle.trans_merge.specs.Halves.{operators_below, AreCopies}
use Rattle.trans_merge.proofs.OfCost.{StepBelow, below_none, below_more}
use Rattle.trans_merge.proofs.Copied.{copies_none, copies_more}
use Rattle.trans_merge.proofs.members.members_of_cost.Goals as goal

pub operators-init : goal.operators-init
operators-init c = record {
  copies = subst (λ (rs : List Relation). AreCopies c.args.single.now [] rs) (sym c.new-members.ensures.items) (copies_none c.args.single.now);
  have = λ o nodes is. subst (HaveSteps o nodes (StepBelow c.args.task.now c.args.cost 0))
      (sym c.new-members.ensures.items) (below_none c.args.task.now o nodes c.args.cost);
}

pub operators-preserved : goal.operators-preserved
operators-preserved c =
    let task = c.args.task.now in
    let single = c.args.single.now in
    let n = c.operators.op in
    let r = c.index-single-op.result in
    let less : n < length task.operators = (let lt = c.operators-test.true in let e = c.operators-op-end.ensures in omega (arith, lt, e)) in
    let turn = c.in_ok-add_of_cost.ensures in
    record {
      copies = copies_more task c.args.cost n single c.operators.members.items c.add_of_cost.new.members.items r
          (let e = c.requires.operators in omega (arith, e, less)) c.index-single-op.is turn
          c.operators.invariant.copies;
      have = λ o nodes is.
          let has = subst (HasSteps o nodes (λ s t. Step task s n t)) (sym c.index-single-op.is) (is.each n r less) in
          below_more task o nodes c.args.cost n r c.operators.members.items c.add_of_cost.new.members.items has turn (c.operators.invariant.have o nodes is);
    }

all : (c : goal.After-operators) → c.operators.op ≡ length c.args.task.now.operators
all c = (let below = c.operators.auto.op-end in let above = c.operators-test.false in let e = c.operators-op-end.ensures in omega (arith, below, above, e))

pub returns-clause-copies : goal.returns-clause-copies
returns-clause-copies c = subst (λ (n : ℕ). AreCopies c.args.single.now
    (operators_below c.args.task.now c.args.cost n) c.operators.members.items) (all c) c.operators.invariant.copies

pub returns-clause-have : goal.returns-clause-have
returns-clause-have c = λ o nodes is. subst (λ (n : ℕ). HaveSteps o nodes (StepBelow c.args.task.now c.args.cost n)
    c.operators.members.items) (all c) (c.operators.invariant.have o nodes is)

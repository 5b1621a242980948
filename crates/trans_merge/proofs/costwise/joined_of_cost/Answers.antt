use Rattle.std.proofs.Common.{arith}
use Rattle.bdd_table.proofs.Adding.{ok_by}
use Rattle.trans_merge.specs.Steps.{StepOfCost}
use Rattle.trans_merge.proofs.OfCost.{merged_have}
use Rattle.trans_merge.proofs.costwise.joined_of_cost.Goals as goal

pub members_of_cost-requires : goal.members_of_cost-requires
members_of_cost-requires c = record {
  operators = c.requires.operators;
  ready = λ k d lt. (let has = c.requires.each k d (let e = c.requires.operators in omega (arith, e, lt)) in has.relation.ready);
}

pub merge-requires : goal.merge-requires
merge-requires c = (let have = c.in_ok-members.ensures.have c.args.order.now c.args.ops.now c.requires in have.relations)

pub returns-clause-halved : goal.returns-clause-halved
returns-clause-halved c = ok_by c.merge.result _ _ c.merge.ensures.halved
    (λ rs halves. record {
      members = c.in_ok-members.members.items;
      copies =
          c.in_ok-members.ensures.copies;
      results_are = halves;
    })

pub returns-clause-have : goal.returns-clause-have
returns-clause-have c = ok_by c.merge.result _ _ c.merge.ensures.merges (λ rs merges.
    merged_have c.args.order.now c.args.bound c.args.ops.now (StepOfCost c.args.task.now c.args.cost)
    c.in_ok-members.members.items c.merge.new.ops rs.items merges
    (c.in_ok-members.ensures.have c.args.order.now c.args.ops.now c.requires))

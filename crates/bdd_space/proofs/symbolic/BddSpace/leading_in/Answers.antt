use Rattle.std.proofs.Common.{◌<◌, List, length, subst, sym}
use Rattle.bdd_table.specs.declared.node.Node.{Node}
use Rattle.bdd_space.proofs.Calls.{known_by}
use Rattle.bdd_space.proofs.Missed.{into_by}
use Rattle.bdd_space.proofs.symbolic.BddSpace.leading_in.Goals as goal

pub leading_into-requires-clause-set : goal.leading_into-requires-clause-set
leading_into-requires-clause-set c =
    let k = known_by _ _ _ c.self.invariant c.self.view_is c.args.a c.id-set.result c.id-set.ensures.is in
    subst (λ (nodes : List Node). c.id-set.result < length nodes) (sym c.table-table.ensures.same) k.known

pub leading_into-requires-clause-order : goal.leading_into-requires-clause-order
leading_into-requires-clause-order c = c.self.invariant.order

pub leading_into-requires-clause-steps : goal.leading_into-requires-clause-steps
leading_into-requires-clause-steps c = c.self.invariant.steps

pub returns : goal.returns
returns c = into_by _ _ _ c.self.invariant c.self.view_is c.args.a c.id-set.result c.id-set.ensures.is
    c.table-table.result.now c.table-table.ensures.same (λ ops. ops.items)
    c.leading_into.result c.leading_into.ensures

use Rattle.std.proofs.Common.{List}
use Rattle.bdd_table.specs.declared.node.Node.{Node}
use Rattle.var_order.specs.Layout.{Layout}
use Rattle.trans_merge.specs.Steps.{HaveSteps}
use Rattle.trans_merge.specs.Gathered.{AreSingle}
use Rattle.trans_merge.specs.Halves.{operators_below, AreCopies}
use Rattle.trans_merge.proofs.OfCost.{StepBelow}
use Rattle.trans_merge.proofs.members.members_of_cost.Given as goal

abbrev pub invariant-operators : goal.invariant-operators
invariant-operators l = record {
  copies : AreCopies l.single (operators_below l.task l.cost l.op) l.members.items;
  have : (o : Layout) (nodes : List Node) → AreSingle l.task o nodes l.single → HaveSteps o nodes (StepBelow l.task l.cost l.op) l.members.items;
}

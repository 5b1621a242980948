use Rattle.bdd_table.specs.Diagram.{Keeps, IsReduced}
use Rattle.trans_merge.specs.Gathered.{AreSingle, AreJoined}
use Rattle.trans_merge.specs.Halves.{AreHalved}
use Rattle.trans_merge.proofs.costwise.joined_by_cost.Given as goal

abbrev pub invariant-loop-cost : goal.invariant-loop-cost
invariant-loop-cost l = record {
  kept : Keeps l.fn.ops l.ops;
  reduced : IsReduced l.ops;
  single : AreSingle l.task l.order l.ops l.single;
  so_far : AreJoined l.task l.order l.ops l.costs l.cost-index l.starts.items l.joined.items;
  halved : AreHalved l.task l.order l.fn.bound l.ops l.single l.costs l.cost-index l.starts.items l.joined.items;
}

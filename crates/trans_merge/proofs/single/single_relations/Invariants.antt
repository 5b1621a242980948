use Rattle.bdd_table.specs.Diagram.{Keeps, IsReduced}
use Rattle.axiom_layers.specs.Roots.{AreRoots}
use Rattle.trans_merge.proofs.OfCost.{SingleBelow}
use Rattle.trans_merge.proofs.single.single_relations.Given as goal

abbrev pub invariant-operators : goal.invariant-operators
invariant-operators l = record {
  kept : Keeps l.fn.ops l.ops;
  reduced : IsReduced l.ops;
  roots : AreRoots l.task l.order l.ops l.derived;
  so_far : SingleBelow l.task l.order l.ops l.op l.single.items;
}

use Rattle.bdd_table.specs.Diagram.{Keeps, IsReduced}
use Rattle.task_run.proofs.Layers.{Below}
use Rattle.axiom_layers.specs.Roots.{AreSets, EachState}
use Rattle.axiom_layers.specs.Raising.{values_of}
use Rattle.axiom_layers.proofs.LayerRules.{IsBegun}
use Rattle.axiom_layers.proofs.compiling.compile.Given as goal

abbrev pub invariant-layers : goal.invariant-layers
invariant-layers l = record {
  kept : Keeps l.fn.ops l.ops;
  reduced : IsReduced l.ops;
  sets : AreSets l.parts l.order l.ops l.roots.items;
  begun : IsBegun l.counting l.layer l.from;
  below : EachState l.parts l.order (λ s b. Below l.parts s l.layer (values_of l.parts l.ops l.roots.items s b));
}

use Rattle.std.proofs.Common.{ℕ}
use Rattle.bdd_table.specs.Diagram.{Keeps, IsReduced}
use Rattle.axiom_layers.specs.Roots.{AreSets, EachState}
use Rattle.axiom_layers.specs.Raising.{AreOfLayer, GrowsInPasses, values_of}
use Rattle.axiom_layers.proofs.layer.close_layer.Given as goal

abbrev pub invariant-passes : goal.invariant-passes
invariant-passes l = record {
  kept : Keeps l.fn.ops l.ops;
  reduced : IsReduced l.ops;
  sets : AreSets l.parts l.order l.ops l.roots.items;
  passes : (layer : ℕ) → AreOfLayer l.parts layer l.rules
      → EachState l.parts l.order (λ s b. GrowsInPasses l.parts layer l.counter
      (values_of l.parts l.fn.ops l.fn.roots.items s b) (values_of l.parts l.ops l.roots.items s b));
}

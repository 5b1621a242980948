use Rattle.std.proofs.Common.{◌≡◌, ℕ, false}
use Rattle.bdd_table.specs.Diagram.{Keeps, IsReduced}
use Rattle.axiom_layers.specs.Roots.{AreSets, EachState}
use Rattle.axiom_layers.specs.Raising.{AreOfLayer, PassTurn, values_of}
use Rattle.axiom_layers.proofs.layer.pass.Given as goal

abbrev pub invariant-loop-counting : goal.invariant-loop-counting
invariant-loop-counting l = record {
  kept : Keeps l.fn.ops l.ops;
  reduced : IsReduced l.ops;
  sets : AreSets l.parts l.order l.ops l.roots.items;
  same : l.changed ≡ false → l.roots.items ≡ l.fn.roots.items;
  turn : (layer : ℕ) → AreOfLayer l.parts layer l.rules
      → EachState l.parts l.order (λ s b. PassTurn l.parts layer l.rules l.counting-index
      (values_of l.parts l.fn.ops l.fn.roots.items s b) (values_of l.parts l.ops l.roots.items s b));
}

use Rattle.std.proofs.Common.{◌<◌, length}
use Rattle.bdd_table.specs.Diagram.{Keeps}
use Rattle.diagram_tests.proofs.merged.images.Given as goal

abbrev pub invariant-loop-relation : goal.invariant-loop-relation
invariant-loop-relation l = record {
  kept : Keeps l.fn.ops l.ops;
  known : l.all < length l.ops;
}

use Rattle.bdd_sets.specs.Leading.{AreChosen}
use Rattle.bdd_sets.proofs.choosing.chosen.Given as goal

abbrev pub invariant-operators : goal.invariant-operators
invariant-operators l = AreChosen l.marks l.lists l.op l.ops.items

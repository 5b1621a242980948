use Rattle.std.proofs.Common.{◌≤◌, length}
use Rattle.bdd_table.specs.Collected.{AreMoved}
use Rattle.bdd_table.proofs.rebuild.renumber.Given as goal

abbrev pub invariant-loop-id : goal.invariant-loop-id
invariant-loop-id l = AreMoved l.old l.marks l.kept.items l.places.items l.id × (length l.kept.items ≤ l.id)

use Rattle.bdd_sets.proofs.Descending.{Descends}
use Rattle.bdd_sets.proofs.occurring.walk.Given as goal

abbrev pub invariant-slots : goal.invariant-slots
invariant-slots l = Descends l.order l.table l.set l.starts l.slots l.ids.items l.marks.items l.slot-index

use Rattle.mutex_use.proofs.Keying.{Seen}
use Rattle.mutex_use.proofs.counts.distinct.Given as goal

abbrev pub invariant-facts : goal.invariant-facts
invariant-facts l = Seen l.facts l.i l.seen l.each.items

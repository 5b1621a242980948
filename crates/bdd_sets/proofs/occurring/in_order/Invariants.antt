use Rattle.bdd_sets.proofs.Descending.{InOrderBelow}
use Rattle.bdd_sets.proofs.occurring.in_order.Given as goal

abbrev pub invariant-places : goal.invariant-places
invariant-places l = InOrderBelow l.order l.slots.items l.place

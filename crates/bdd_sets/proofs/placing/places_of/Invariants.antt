use Rattle.bdd_sets.proofs.FactLists.{PlacedBelow}
use Rattle.bdd_sets.proofs.placing.places_of.Given as goal

abbrev pub invariant-facts : goal.invariant-facts
invariant-facts l = PlacedBelow l.order l.starts l.facts l.fact-index l.places

use Rattle.bdd_sets.specs.Steps.{IsLeft}
use Rattle.bdd_sets.proofs.FactLists.{FactsBelow}
use Rattle.bdd_sets.proofs.stepping.all_left.Given as goal

abbrev pub invariant-loop-operator : goal.invariant-loop-operator
invariant-loop-operator l = FactsBelow IsLeft l.operators l.lists.items l.operator-index

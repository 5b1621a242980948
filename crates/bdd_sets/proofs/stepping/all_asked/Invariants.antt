use Rattle.bdd_sets.specs.Steps.{IsAsked}
use Rattle.bdd_sets.proofs.FactLists.{FactsBelow}
use Rattle.bdd_sets.proofs.stepping.all_asked.Given as goal

abbrev pub invariant-loop-operator : goal.invariant-loop-operator
invariant-loop-operator l = FactsBelow IsAsked l.operators l.lists.items l.operator-index

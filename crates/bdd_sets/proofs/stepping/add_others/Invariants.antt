use Rattle.std.specs.List.{Contains}
use Rattle.bdd_sets.proofs.FactLists.{OthersBelow}
use Rattle.bdd_sets.proofs.stepping.add_others.Given as goal

abbrev pub invariant-prevail : goal.invariant-prevail
invariant-prevail l = OthersBelow (λ f. Contains l.fn.facts f) l.prevail l.on l.fact-index l.facts

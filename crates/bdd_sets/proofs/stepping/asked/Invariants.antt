use Rattle.std.specs.List.{Contains}
use Rattle.bdd_sets.proofs.FactLists.{AskedBelow}
use Rattle.bdd_sets.proofs.stepping.asked.Given as goal

abbrev pub invariant-effects : goal.invariant-effects
invariant-effects l = AskedBelow (λ f. Contains l.operator.prevail f) l.operator.effects l.effect-index l.facts

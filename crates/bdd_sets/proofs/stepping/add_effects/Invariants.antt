use Rattle.std.proofs.Common.{drop}
use Rattle.bdd_sets.specs.Steps.{AreLast}
use Rattle.bdd_sets.proofs.stepping.add_effects.Given as goal

abbrev pub invariant-effects : goal.invariant-effects
invariant-effects l = AreLast (drop l.at l.effects) l.facts l.on

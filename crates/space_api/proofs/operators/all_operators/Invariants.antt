use Rattle.space_api.specs.Operators.{CountsTo}
use Rattle.space_api.proofs.operators.all_operators.Given as goal

abbrev pub invariant-operators : goal.invariant-operators
invariant-operators l = CountsTo l.operator l.all.items

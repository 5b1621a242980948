use Rattle.std.proofs.Common.{◌≡◌, length}
use Rattle.engine_tests.proofs.costs.names_of.Given as goal

-- a name for each operator so far
abbrev pub invariant-operators : goal.invariant-operators
invariant-operators l = record { count : length l.names.items ≡ l.op-index }

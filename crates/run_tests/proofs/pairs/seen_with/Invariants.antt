use Rattle.std.proofs.Common.{◌≤◌}
use Rattle.run_tests.proofs.pairs.seen_with.Given as goal

abbrev pub invariant-loop-other : goal.invariant-loop-other
invariant-loop-other l = l.count ≤ l.other

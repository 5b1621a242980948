use Rattle.std.proofs.Common.{◌*◌, ◌≤◌}
use Rattle.stubborn_sets.proofs.makers.firsts_of.Given as goal

abbrev pub invariant-loop-variable : goal.invariant-loop-variable
invariant-loop-variable l = l.first ≤ 65536 * l.variable-index

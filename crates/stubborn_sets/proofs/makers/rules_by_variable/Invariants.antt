use Rattle.std.proofs.Common.{ℕ}
use Rattle.stubborn_sets.specs.Kept.{LeavesOut, IsForOther, list_at}
use Rattle.stubborn_sets.proofs.makers.rules_by_variable.Given as goal

abbrev pub invariant-loop-number : goal.invariant-loop-number
invariant-loop-number l = (var : ℕ) → LeavesOut (IsForOther l.rules var) l.number (list_at l.lists var)

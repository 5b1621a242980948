use Rattle.std.proofs.Common.{◌≡◌, ◌++◌, drop}
use Rattle.symk_task.specs.Variables.{base_values}
use Rattle.symk_task.proofs.base.base_values.Given as goal

abbrev pub invariant-loop-i : goal.invariant-loop-i
invariant-loop-i l = l.base.items ++ base_values (drop l.i l.variables) (drop l.i l.values) ≡ base_values l.variables l.values

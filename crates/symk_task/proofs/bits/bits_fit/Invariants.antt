use Rattle.std.proofs.Common.{◌≡◌, ◌≤◌, take, sum_by}
use Rattle.symk_task.specs.Fits.{bits_of}
use Rattle.symk_task.proofs.bits.bits_fit.Given as goal

abbrev pub invariant-loop-variable : goal.invariant-loop-variable
invariant-loop-variable l = record {
  sum : l.bits ≡ sum_by bits_of (take l.variable-index l.variables);
  most : l.bits ≤ 65536;
}

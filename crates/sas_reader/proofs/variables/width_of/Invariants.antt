use Rattle.std.proofs.Common.{◌≡◌, ◌<◌, ◌≤◌, ◌+◌, ◌-◌}
use Rattle.symk_task.specs.Variables.{doublings, width}
use Rattle.sas_reader.proofs.variables.width_of.Given as goal

abbrev pub invariant-loop-power : goal.invariant-loop-power
invariant-loop-power l = record {
  few : l.bits < l.power;
  small : l.power ≤ 131072;
  so_far : l.bits + doublings (l.values - l.bits) l.power l.values ≡ width l.values;
}

abbrev pub decreases-loop-power : goal.decreases-loop-power
decreases-loop-power l = l.values - l.power

use Rattle.std.proofs.Common.{◌<◌, All, Contains}
use Rattle.task_run.specs.declared.counting.Counting.{Counting}
use Rattle.task_run.specs.Counted.{IsCounting}
use Rattle.task_run.proofs.counting.counting_rules.Given as goal

abbrev pub invariant-loop-i : goal.invariant-loop-i
invariant-loop-i l = record {
  counting : All (IsCounting l.parts) l.counting.items;
  each : (x : Counting) → x.rule < l.i → IsCounting l.parts x → Contains l.counting.items x;
}

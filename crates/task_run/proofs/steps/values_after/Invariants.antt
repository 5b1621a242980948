use Rattle.std.proofs.Common.{◌≡◌, ℕ, length, take, get_or}
use Rattle.symk_task.specs.Steps.{ValueAfter}
use Rattle.task_run.specs.Values.{FiresBy}
use Rattle.task_run.proofs.steps.values_after.Given as goal

abbrev pub invariant-loop-effect : goal.invariant-loop-effect
invariant-loop-effect l = record {
  each : length l.next.items ≡ length l.values;
  values : (var : ℕ) → ValueAfter (FiresBy l.values) (take l.effect-index l.effects) var (get_or l.values var 0) (get_or l.next.items var 0);
}

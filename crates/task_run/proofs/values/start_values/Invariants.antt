use Rattle.std.proofs.Common.{◌≡◌, ℕ, ◌<◌, length, take, get_or}
use Rattle.std.specs.List.{count_by}
use Rattle.symk_task.specs.Variables.{is_base}
use Rattle.task_run.specs.Layer.{start_value}
use Rattle.task_run.proofs.values.start_values.Given as goal

abbrev pub invariant-loop-i : goal.invariant-loop-i
invariant-loop-i l = record {
  each : length l.values.items ≡ l.i;
  place : l.place ≡ count_by is_base (take l.i l.variables);
  values : (k : ℕ) → k < l.i → get_or l.values.items k 0 ≡ start_value l.variables l.defaults l.state k;
}

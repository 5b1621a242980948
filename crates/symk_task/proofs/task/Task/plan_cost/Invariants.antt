use Rattle.std.proofs.Common.{◌≡◌, ◌≤◌, ◌*◌, ◌^◌, take}
use Rattle.symk_task.specs.Plans.{cost_of}
use Rattle.symk_task.proofs.task.Task.plan_cost.Given as goal

abbrev pub invariant-loop-i : goal.invariant-loop-i
invariant-loop-i l = record {
  sum : l.cost ≡ cost_of l.self (take l.i l.operators);
  most : l.cost ≤ l.i * 2 ^ 64;
}

use Rattle.std.proofs.Common.{List, ℕ, take}
use Rattle.symk_task.specs.Variables.{IsState}
use Rattle.symk_task.specs.Plans.{IsInitial}
use Rattle.task_run.specs.Values.{Valued}
use Rattle.plan_out.specs.Checks.{IsPassed}
use Rattle.plan_out.proofs.Walking.{Walks}
use Rattle.plan_out.proofs.run.run.Given as goal

abbrev pub invariant-loop-i : goal.invariant-loop-i
invariant-loop-i l = record {
  state : IsState l.task l.state;
  valued : Valued l.task l.state l.values;
  walks : (s : List ℕ) × (left : List (List ℕ)) × IsInitial l.task s × Walks l.task s (take l.i l.plan) left l.state × IsPassed l.mode left l.state l.passed;
}

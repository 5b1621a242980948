use Rattle.std.proofs.Common.{ℕ, ◌<◌, take}
use Rattle.plan_out.specs.Checks.{IsSeen}
use Rattle.plan_out.specs.Fails.{Fails}
use Rattle.plan_out.specs.declared.check.Why.{Why}
use Rattle.plan_out.proofs.check.check_list.Given as goal

abbrev pub invariant-loop-i : goal.invariant-loop-i
invariant-loop-i l = record {
  seen : IsSeen l.mode (take l.i l.blocks) l.seen;
  good : (k : ℕ) (why : Why) → k < l.i → ¬ Fails l.task l.mode l.blocks k why;
}

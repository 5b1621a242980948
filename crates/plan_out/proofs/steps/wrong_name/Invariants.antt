use Rattle.std.proofs.Common.{ℕ, ◌<◌}
use Rattle.plan_out.specs.Fails.{IsStepNamed}
use Rattle.plan_out.proofs.steps.wrong_name.Given as goal

abbrev pub invariant-loop-i : goal.invariant-loop-i
invariant-loop-i l = (k : ℕ) → k < l.i → IsStepNamed l.all l.operators l.names k

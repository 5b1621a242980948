use Rattle.plan_run.proofs.width.common_divisor.Given as goal

abbrev pub invariant-euclid : goal.invariant-euclid
invariant-euclid l = Unit {0}

abbrev pub decreases-euclid : goal.decreases-euclid
decreases-euclid l = l.less

use Rattle.task_run.specs.RuleStatus.{HaveBetween}
use Rattle.task_run.proofs.rule_status.unmet.Given as goal

abbrev pub invariant-loop-i : goal.invariant-loop-i
invariant-loop-i l = HaveBetween l.values l.facts l.from l.i

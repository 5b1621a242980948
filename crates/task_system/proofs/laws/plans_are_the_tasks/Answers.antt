use Rattle.task_system.proofs.RunsLaw.{runs_law, cost_law}
use Rattle.task_system.proofs.TraceLaw.{trace_law, mode_law}
use Rattle.task_system.proofs.laws.plans_are_the_tasks.Goals as goal

pub returns-clause-runs : goal.returns-clause-runs
returns-clause-runs c = runs_law

pub returns-clause-traces : goal.returns-clause-traces
returns-clause-traces c = trace_law

pub returns-clause-plans : goal.returns-clause-plans
returns-clause-plans c = mode_law

pub returns-clause-costs : goal.returns-clause-costs
returns-clause-costs c = cost_law

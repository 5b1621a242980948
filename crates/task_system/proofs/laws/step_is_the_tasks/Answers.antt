use Rattle.task_system.proofs.StepLaw.{step_law}
use Rattle.task_system.proofs.RunsLaw.{leads_law}
use Rattle.task_system.proofs.laws.step_is_the_tasks.Goals as goal

pub returns-clause-step : goal.returns-clause-step
returns-clause-step c = step_law

pub returns-clause-leads : goal.returns-clause-leads
returns-clause-leads c = leads_law

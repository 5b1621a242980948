use Rattle.task_system.proofs.StepLaw.{goal_law}
use Rattle.task_system.proofs.laws.goal_is_the_tasks.Goals as goal

pub returns : goal.returns
returns c = goal_law

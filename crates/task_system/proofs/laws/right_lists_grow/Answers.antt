use Rattle.symk_task.specs.Plans.{Same}
use Rattle.task_system.specs.System.{cost_in_system, IsSystemPlanOf}
use Rattle.task_system.proofs.GrowLaw.{none_right, grow_law}
use Rattle.task_system.proofs.laws.right_lists_grow.Goals as goal

pub returns-clause-none : goal.returns-clause-none
returns-clause-none c = (λ system mode. none_right (IsSystemPlanOf system mode) (Same mode) (cost_in_system system))

pub returns-clause-more : goal.returns-clause-more
returns-clause-more c = grow_law

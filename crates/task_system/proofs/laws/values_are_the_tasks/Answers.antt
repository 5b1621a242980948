use Rattle.task_system.proofs.ValuesLaw.{values_law}
use Rattle.task_system.proofs.laws.values_are_the_tasks.Goals as goal

pub returns : goal.returns
returns c = values_law

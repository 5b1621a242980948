use Rattle.task_system.proofs.SameLaw.{same_law}
use Rattle.task_system.proofs.laws.same_tells_which_count_as_one.Goals as goal

pub returns : goal.returns
returns c = same_law

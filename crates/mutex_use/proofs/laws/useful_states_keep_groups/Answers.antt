use Rattle.mutex_use.proofs.Holding.{useful_keep}
use Rattle.mutex_use.proofs.laws.useful_states_keep_groups.Goals as goal

pub returns : goal.returns
returns c = useful_keep

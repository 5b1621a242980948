use Rattle.mutex_use.proofs.Holding.{one_greatest}
use Rattle.mutex_use.proofs.laws.greatest_is_one.Goals as goal

pub returns : goal.returns
returns c = one_greatest

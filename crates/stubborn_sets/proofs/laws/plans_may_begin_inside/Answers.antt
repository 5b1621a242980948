use Rattle.stubborn_sets.proofs.Moving.{begun}
use Rattle.stubborn_sets.proofs.laws.plans_may_begin_inside.Goals as goal

pub returns : goal.returns
returns c = begun

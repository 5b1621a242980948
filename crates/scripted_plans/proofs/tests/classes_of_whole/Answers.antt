use Rattle.selectors.proofs.Keeping.{own_member}
use Rattle.scripted_plans.proofs.tests.classes_of_whole.Goals as goal

pub new-classes-requires-clause-members : goal.new-classes-requires-clause-members
new-classes-requires-clause-members c = λ p plan. own_member _ p ((c.new.ensures.pends p).1 (c.in_ok-of.ensures.plans p plan))

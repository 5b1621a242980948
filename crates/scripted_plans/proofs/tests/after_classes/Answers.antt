use Rattle.scripted_plans.proofs.Taking.{cheap_free}
use Rattle.scripted_plans.proofs.tests.after_classes.Goals as goal

pub new-requires-2-clause-cheap : goal.new-requires-2-clause-cheap
new-requires-2-clause-cheap c = cheap_free c.in_ok-list.field-0

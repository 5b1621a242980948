use Rattle.scripted_plans.proofs.Taking.{cheap_free}
use Rattle.scripted_plans.proofs.tests.after_list.Goals as goal

pub new-requires-clause-cheap : goal.new-requires-clause-cheap
new-requires-clause-cheap c = cheap_free c.in_ok-list.field-0

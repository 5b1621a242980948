use Rattle.scripted_plans.proofs.Telling.{turned_unmet, last_is, last_stays}
use Rattle.scripted_plans.proofs.endless.EndlessLazyMembers.next_member.Goals as goal

pub returns-clause-law : goal.returns-clause-law
returns-clause-law g c = turned_unmet _ _ _ _ c.args.self.now.stopped c.answer.new.self.stopped c.answer.result c.answer.ensures

pub returns-clause-last : goal.returns-clause-last
returns-clause-last g c = last_is _ _ _ _ c.args.self.now.stopped c.answer.new.self.stopped c.answer.result c.answer.ensures

pub returns-clause-again : goal.returns-clause-again
returns-clause-again g c = last_stays _ _ _ _ c.args.self.now.stopped c.answer.new.self.stopped c.answer.result c.answer.ensures

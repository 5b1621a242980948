use Rattle.selectors.proofs.Keeping.{turned_whole}
use Rattle.selectors.proofs.whole.WholeLazyMembers.next_member.Goals as goal

pub returns-clause-law : goal.returns-clause-law
returns-clause-law g c = turned_whole _ (g.I.LazyPlans.mode c.args.self.now.inner) _ _ _ c.next_plan.result c.next_plan.ensures.law

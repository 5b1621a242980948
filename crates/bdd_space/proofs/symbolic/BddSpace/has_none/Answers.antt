use Rattle.bdd_space.proofs.Asked.{none_by, member_by}
use Rattle.bdd_space.proofs.symbolic.BddSpace.has_none.Goals as goal

pub returns-clause-empty : goal.returns-clause-empty
returns-clause-empty c = none_by _ _ _ c.self.invariant c.self.view_is c.args.a c.id-set.result c.id-set.ensures.is

pub returns-clause-member : goal.returns-clause-member
returns-clause-member c = member_by _ _ _ c.self.invariant c.self.view_is c.args.a c.id-set.result c.id-set.ensures.is

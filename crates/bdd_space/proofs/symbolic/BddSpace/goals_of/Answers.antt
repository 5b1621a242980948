use Rattle.bdd_space.proofs.Keeping.{space_grown}
use Rattle.bdd_space.proofs.Calls.{grows_by, kept_by, known_by, goals_by}
use Rattle.bdd_space.proofs.symbolic.BddSpace.goals_of.Goals as goal

pub conj-requires-clause-f : goal.conj-requires-clause-f
conj-requires-clause-f c = (let k = known_by _ _ _ c.self.invariant c.self.view_is c.args.a c.id-set.result c.id-set.ensures.is in k.known)

pub conj-requires-clause-g : goal.conj-requires-clause-g
conj-requires-clause-g c = c.self.invariant.own.goals.known

pub invariant_of-self : goal.invariant_of-self
invariant_of-self c = space_grown _ _ _ c.self.invariant c.conj.ensures.kept c.conj.ensures.reduced

pub returns-clause-made : goal.returns-clause-made
returns-clause-made c = goals_by _ _ _ c.self.invariant c.self.view_is c.args.a c.id-set.result c.id-set.ensures.is
    c.conj.new.self c.conj.result c.conj.ensures.known c.conj.ensures.meaning

pub returns-clause-grows : goal.returns-clause-grows
returns-clause-grows c = grows_by _ _ _ c.self.invariant c.self.view_is c.conj.new.self c.conj.ensures.kept

pub returns-clause-kept : goal.returns-clause-kept
returns-clause-kept c = kept_by _ _ _ c.self.invariant c.self.view_is c.conj.new.self c.conj.ensures.kept

use Rattle.bdd_space.proofs.Keeping.{space_grown}
use Rattle.bdd_space.proofs.Calls.{grows_by, kept_by, known_by, united_by}
use Rattle.bdd_space.proofs.symbolic.BddSpace.union_of.Goals as goal

pub disj-requires-clause-f : goal.disj-requires-clause-f
disj-requires-clause-f c = (let k = known_by _ _ _ c.self.invariant c.self.view_is c.args.a c.id-f.result c.id-f.ensures.is in k.known)

pub disj-requires-clause-g : goal.disj-requires-clause-g
disj-requires-clause-g c = (let k = known_by _ _ _ c.self.invariant c.self.view_is c.args.b c.id-g.result c.id-g.ensures.is in k.known)

pub invariant_of-self : goal.invariant_of-self
invariant_of-self c = space_grown _ _ _ c.self.invariant c.disj.ensures.kept c.disj.ensures.reduced

pub returns-clause-made : goal.returns-clause-made
returns-clause-made c = united_by _ _ _ c.self.invariant c.self.view_is c.args.a c.id-f.result c.id-f.ensures.is
    c.disj.new.self c.disj.result c.disj.ensures.known c.args.b c.id-g.result
    c.id-g.ensures.is c.disj.ensures.meaning

pub returns-clause-grows : goal.returns-clause-grows
returns-clause-grows c = grows_by _ _ _ c.self.invariant c.self.view_is c.disj.new.self c.disj.ensures.kept

pub returns-clause-kept : goal.returns-clause-kept
returns-clause-kept c = kept_by _ _ _ c.self.invariant c.self.view_is c.disj.new.self c.disj.ensures.kept

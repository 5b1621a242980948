use Rattle.bdd_space.proofs.Keeping.{space_grown}
use Rattle.bdd_space.proofs.Calls.{grows_by, kept_by, known_by, left_by}
use Rattle.bdd_space.proofs.symbolic.BddSpace.difference_of.Goals as goal

pub minus-requires-clause-f : goal.minus-requires-clause-f
minus-requires-clause-f c = (let k = known_by _ _ _ c.self.invariant c.self.view_is c.args.a c.id-f.result c.id-f.ensures.is in k.known)

pub minus-requires-clause-g : goal.minus-requires-clause-g
minus-requires-clause-g c = (let k = known_by _ _ _ c.self.invariant c.self.view_is c.args.b c.id-g.result c.id-g.ensures.is in k.known)

pub invariant_of-self : goal.invariant_of-self
invariant_of-self c = space_grown _ _ _ c.self.invariant c.minus.ensures.kept c.minus.ensures.reduced

pub returns-clause-made : goal.returns-clause-made
returns-clause-made c = left_by _ _ _ c.self.invariant c.self.view_is c.args.a c.id-f.result c.id-f.ensures.is
    c.minus.new.self c.minus.result c.minus.ensures.known c.args.b c.id-g.result c.id-g.ensures.is
    c.minus.ensures.meaning

pub returns-clause-grows : goal.returns-clause-grows
returns-clause-grows c = grows_by _ _ _ c.self.invariant c.self.view_is c.minus.new.self c.minus.ensures.kept

pub returns-clause-kept : goal.returns-clause-kept
returns-clause-kept c = kept_by _ _ _ c.self.invariant c.self.view_is c.minus.new.self c.minus.ensures.kept

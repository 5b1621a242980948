use Rattle.bdd_space.proofs.Asked.{same_by}
use Rattle.bdd_space.proofs.symbolic.BddSpace.have_same.Goals as goal

pub returns : goal.returns
returns c = same_by _ _ _ c.self.invariant c.self.view_is c.args.a c.id-f.result c.id-f.ensures.is c.args.b c.id-g.result c.id-g.ensures.is

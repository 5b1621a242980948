use Rattle.bdd_ops.proofs.Cache.{right_kept}
use Rattle.bdd_ops.proofs.ops.Ops.keep_whole.Goals as goal

pub invariant_of-self : goal.invariant_of-self
invariant_of-self c = right_kept c.self.inside.table c.self.inside.cache.entries c.self.inside.recent _ c.self.invariant
    (c.keep_whole.ensures c.self.inside.table c.self.invariant.places (rw c.self.view_is c.requires))

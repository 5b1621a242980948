use Rattle.bdd_ops.proofs.Cache.{right_after}
use Rattle.bdd_ops.proofs.Keys.{key_eq, key_eq_same}
use Rattle.bdd_ops.proofs.ops.Ops.keep_dear.Goals as goal

pub invariant_of-self : goal.invariant_of-self
invariant_of-self c = right_after key_eq key_eq_same c.self.inside.table c.self.inside.recent c.self.inside.cache _
    c.args.key c.args.id _ c.self.invariant (rw c.self.view_is c.requires) c.put.ensures.entries c.put.ensures.err

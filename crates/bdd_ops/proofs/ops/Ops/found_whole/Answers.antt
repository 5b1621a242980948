use Rattle.bdd_ops.proofs.Cache.{found_right}
use Rattle.bdd_ops.proofs.ops.Ops.found_whole.Goals as goal

pub returns : goal.returns
returns c = rw (← c.self.view_is) (found_right c.self.inside.table c.self.inside.cache.entries c.self.inside.recent
    c.args.key c.found_whole.result c.self.invariant c.found_whole.ensures)

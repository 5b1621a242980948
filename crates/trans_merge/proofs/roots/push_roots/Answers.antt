use Rattle.trans_merge.specs.Roots.{roots_in, IsPushedInPart}
use Rattle.trans_merge.proofs.Rooting.{on_err, pushed_part}
use Rattle.trans_merge.proofs.roots.push_roots.Goals as goal

pub returns-in_err-push-clause-err : goal.returns-in_err-push-clause-err
returns-in_err-push-clause-err c = on_err c.from_residual.result (IsPushedInPart (roots_in c.args.relations.now) c.args.roots.now.items c.push.new.self.items)
    (pushed_part c.args.relations.now c.loop-relation.relation-index c.args.roots.now.items
    c.loop-relation.roots.items c.push.new.self.items c.in_err-push.ensures.items c.loop-relation.invariant)

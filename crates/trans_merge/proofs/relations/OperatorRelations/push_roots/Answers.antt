use Rattle.trans_merge.specs.Roots.{roots_of, IsPushedInPart}
use Rattle.trans_merge.proofs.Rooting.{known_roots, on_err, on_err_by, pushed_first, pushed_second}
use Rattle.trans_merge.proofs.relations.OperatorRelations.push_roots.Goals as goal

pub returns-in_err-push_roots-clause-known : goal.returns-in_err-push_roots-clause-known
returns-in_err-push_roots-clause-known c = λ task o nodes is. known_roots task o nodes c.args.self.now is

pub returns-in_err-push_roots-clause-err : goal.returns-in_err-push_roots-clause-err
returns-in_err-push_roots-clause-err c = on_err c.from_residual.result
    (IsPushedInPart (roots_of c.args.self.now) c.args.roots.now.items c.push_roots.new.roots.items)
    (pushed_first c.args.self.now c.deref.result.now c.args.roots.now.items c.push_roots.new.roots.items c.deref.ensures.value c.in_err-push_roots.ensures.err)

pub returns-clause-known : goal.returns-clause-known
returns-clause-known c = λ task o nodes is. known_roots task o nodes c.args.self.now is

pub returns-clause-err : goal.returns-clause-err
returns-clause-err c = on_err_by c.push_roots-2.result _ _ c.push_roots-2.ensures.err
    (λ part. pushed_second c.args.self.now c.deref.result.now c.deref-2.result.now c.args.roots.now.items
    c.push_roots.new.roots.items c.push_roots-2.new.roots.items c.deref.ensures.value c.deref-2.ensures.value
    c.in_ok-push_roots.ensures.pushed part)

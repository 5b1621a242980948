use Rattle.reconstruct.specs.Grown.{IsPut, PutsBefore}
use Rattle.reconstruct.specs.declared.entries.Entry.TheVariants.{Before}
use Rattle.reconstruct.proofs.Adding.{on_ok}
use Rattle.reconstruct.proofs.before.put_grown.Goals as goal

pub returns-clause-ok : goal.returns-clause-ok
returns-clause-ok g c =
    let v = g.S.Space.view c.args.space.now in
    let e = c.args.prefix.now in
    let step = c.args.step in
    let old = c.args.children.now in
    let new = c.put_before.new.self in
    on_ok c.put_before.result
    (IsPut e.cost e.ring (Before c.in_ok-child.child) old.level.items old.falling.items new.level.items new.falling.items)
    (PutsBefore v c.args.front.now e step.op step.cost step.set old.level.items old.falling.items new.level.items new.falling.items)
    (λ h. (c.in_ok-child.child, c.in_ok-child.ensures.ok, h)) c.put_before.ensures.ok

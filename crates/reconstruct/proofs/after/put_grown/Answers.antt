use Rattle.reconstruct.specs.Grown.{IsPut, PutsBy}
use Rattle.reconstruct.specs.declared.entries.Entry.TheVariants.{After}
use Rattle.reconstruct.proofs.Adding.{on_ok}
use Rattle.reconstruct.proofs.after.put_grown.Goals as goal

pub returns-clause-ok : goal.returns-clause-ok
returns-clause-ok g c =
    on_ok c.put_after.result
    (IsPut c.args.suffix.now.cost c.args.suffix.now.ring (After c.in_ok-child.child) c.args.children.now.level.items
    c.args.children.now.falling.items c.put_after.new.self.level.items c.put_after.new.self.falling.items)
    (PutsBy c.args.suffix.now c.args.step.now c.args.children.now.level.items c.args.children.now.falling.items
    c.put_after.new.self.level.items c.put_after.new.self.falling.items)
    (λ h. (c.in_ok-child.child, c.in_ok-child.ensures, h)) c.put_after.ensures.ok

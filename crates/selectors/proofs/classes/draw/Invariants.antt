use Rattle.std.proofs.Common.{◌≡◌}
use Rattle.selectors.specs.Left.{CoversClasses}
use Rattle.lazy_plans.proofs.Draws.{still}
use Rattle.selectors.proofs.classes.draw.Given as goal

abbrev pub invariant-plans : goal.invariant-plans
invariant-plans g l =
    let i = g.I.LazyMembers in
    record {
      lawful : i.lawful l.inner;
      system : i.system l.inner ≡ i.system l.fn.inner;
      most : i.most l.inner ≡ i.most l.fn.inner;
      seen : l.seen ≡ l.fn.seen;
      covers : CoversClasses (i.system l.fn.inner) l.fn.seen (i.pends l.inner);
    }

abbrev pub decreases-plans : goal.decreases-plans
decreases-plans g l = still (g.I.LazyMembers.tells l.inner) l.seen

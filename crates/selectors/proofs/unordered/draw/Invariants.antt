use Rattle.std.proofs.Common.{◌≡◌, None}
use Rattle.symk_task.specs.declared.parts.Mode.TheVariants.{TopK, Unordered}
use Rattle.lazy_plans.specs.Law.{PendsAlike}
use Rattle.lazy_plans.specs.SelectorsOwe.{Owes, Unlisted}
use Rattle.lazy_plans.proofs.Draws.{still}
use Rattle.selectors.proofs.unordered.draw.Given as goal

abbrev pub invariant-plans : goal.invariant-plans
invariant-plans g l =
    let i = g.I.LazyPlans in
    record {
      lawful : i.lawful l.inner;
      system : i.system l.inner ≡ i.system l.fn.inner;
      mode : i.mode l.inner ≡ TopK;
      most : i.most l.inner ≡ i.most l.fn.inner;
      seen : l.seen ≡ l.fn.seen;
      held : l.held ≡ None;
      stays : PendsAlike (Owes (i.pends l.fn.inner) l.fn.seen None) (Unlisted Unordered l.fn.seen (i.pends l.inner));
    }

abbrev pub decreases-plans : goal.decreases-plans
decreases-plans g l = still (g.I.LazyPlans.tells l.inner) l.seen

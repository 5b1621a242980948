use Rattle.std.proofs.Common.{◌≡◌, ◌≢◌, ◌≤◌, None, vec_capacity}
use Rattle.lazy_plans.specs.Law.{PendsAlike}
use Rattle.lazy_plans.specs.SelectorsOwe.{Unlisted}
use Rattle.lazy_plans.proofs.Draws.{still}
use Rattle.selectors.proofs.after.draw.Given as goal

abbrev pub invariant-plans : goal.invariant-plans
invariant-plans g l =
    let i = g.I.LazyPlans in
    record {
      lawful : i.lawful l.inner;
      system : i.system l.inner ≡ i.system l.fn.inner;
      mode : i.mode l.inner ≡ l.fn.mode;
      most : i.most l.inner ≡ i.most l.fn.inner;
      capacity : vec_capacity l.fn.room ≤ vec_capacity l.room;
      stays : PendsAlike (Unlisted l.fn.mode l.fn.keys (i.pends l.fn.inner)) (Unlisted l.fn.mode l.fn.keys (i.pends l.inner));
      again : i.last l.fn.inner ≢ None → i.last l.inner ≡ i.last l.fn.inner;
    }

abbrev pub decreases-plans : goal.decreases-plans
decreases-plans g l = still (g.I.LazyPlans.tells l.inner) l.fn.keys

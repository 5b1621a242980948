use Rattle.std.proofs.Common.{◌∙◌, sym, arith, rules}
use Rattle.lazy_plans.proofs.Draws.{after_skips, after_stop, still_falls}
use Rattle.selectors.proofs.after.draw.Goals as goal

pub plans-smaller : goal.plans-smaller
plans-smaller g c =
    let i = c.plans.invariant in
    let e = g.I.LazyPlans in
    let gave = rw (i.system, i.mode, i.most) at (rw c.in-Ok-Some.field-0-is at c.in-Ok-Some.ensures.law) in
    let listed = c.is_listed.ensures.listed.0 (search rules) in
    still_falls c.args.mode c.args.keys.now (e.tells c.plans.inner) (e.tells c.next_plan.new.self)
    (g.met.I.LazyPlans.told c.plans.inner i.lawful) (g.met.I.LazyPlans.told c.next_plan.new.self
    c.in-Ok-Some.ensures.lawful) gave listed

pub plans-preserved : goal.plans-preserved
plans-preserved g c =
    let i = c.plans.invariant in
    let e = g.I.LazyPlans in
    let gave = rw (i.system, i.mode, i.most) at (rw c.in-Ok-Some.field-0-is at c.in-Ok-Some.ensures.law) in
    let listed = c.is_listed.ensures.listed.0 (search rules) in
    record {
      lawful = c.in-Ok-Some.ensures.lawful;
      system = c.in-Ok-Some.ensures.system ∙ i.system;
      mode = c.in-Ok-Some.ensures.mode ∙ i.mode;
      most = c.in-Ok-Some.ensures.most ∙ i.most;
      capacity = omega (arith, i.capacity, c.is_listed.ensures.capacity);
      stays = after_skips _ c.args.mode _ c.args.keys.now (e.pends c.args.inner.now) (e.pends c.plans.inner)
          (e.pends c.next_plan.new.self) i.stays c.in-Ok-Some.plan gave listed;
      again = λ n. c.in-Ok-Some.ensures.again (λ z. n (sym (i.again n) ∙ z)) ∙ i.again n;
    }

pub returns-in-Err-clause-law : goal.returns-in-Err-clause-law
returns-in-Err-clause-law g c =
    let i = c.plans.invariant in
    let e = g.I.LazyPlans in
    let law = rw (i.system, i.most) at (rw c.in-Err.stop-is at c.in-Err.ensures.law) in
    after_stop _ c.args.mode _ c.args.keys.now (e.pends c.args.inner.now) (e.pends c.plans.inner)
    (e.pends c.next_plan.new.self) i.stays c.in-Err.stop c.requires.keyed law

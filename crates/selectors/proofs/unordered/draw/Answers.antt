use Rattle.std.proofs.Common.{◌∙◌, refl}
use Rattle.symk_task.specs.declared.parts.Mode.TheVariants.{Unordered}
use Rattle.lazy_plans.proofs.Keyed.{key_same, keys_more}
use Rattle.lazy_plans.proofs.Draws.{begun, law_fresh, law_held, law_skips, law_stop, still_falls}
use Rattle.selectors.proofs.unordered.draw.Goals as goal

pub plans-init : goal.plans-init
plans-init g c = record {
  lawful = c.requires.lawful;
  system = refl;
  mode = c.requires.mode;
  most = refl;
  seen = refl;
  held = c.requires.held;
  stays = begun c.args.seen.now (g.I.LazyPlans.pends c.args.inner.now);
}

pub returns-in-Ok-true-clause-seen : goal.returns-in-Ok-true-clause-seen
returns-in-Ok-true-clause-seen g c =
    let i = c.plans.invariant in
    let e = g.I.LazyPlans in
    let gave = rw (i.system, i.mode, i.most) at (rw c.in-Ok-Some.field-0-is at c.in-Ok-Some.ensures.law) in
    let noted = rw (c.in-Ok-true.field-0-test, i.seen) at c.in-Ok-true.ensures.ok in
    keys_more (e.system c.args.inner.now) Unordered (e.most c.args.inner.now) c.args.seen.now _ c.in-Ok-Some.plan
    noted.key c.requires.seen gave.fits noted.is noted.more

pub returns-in-Ok-true-clause-law : goal.returns-in-Ok-true-clause-law
returns-in-Ok-true-clause-law g c =
    let i = c.plans.invariant in
    let e = g.I.LazyPlans in
    let gave = rw (i.system, i.mode, i.most) at (rw c.in-Ok-Some.field-0-is at c.in-Ok-Some.ensures.law) in
    let noted = rw (c.in-Ok-true.field-0-test, i.seen) at c.in-Ok-true.ensures.ok in
    law_fresh _ _ c.args.seen.now (e.pends c.args.inner.now) (e.pends c.plans.inner) (e.pends c.next_plan.new.self)
    i.stays c.in-Ok-Some.plan noted.key _ c.plans.held gave
    (key_same Unordered c.in-Ok-Some.plan noted.key noted.is) noted.fresh noted.more i.held

pub returns-in-Err-note_class-clause-law : goal.returns-in-Err-note_class-clause-law
returns-in-Err-note_class-clause-law g c =
    let i = c.plans.invariant in
    let e = g.I.LazyPlans in
    let gave = rw (i.system, i.mode, i.most) at (rw c.in-Ok-Some.field-0-is at c.in-Ok-Some.ensures.law) in (
      tt,
      law_held _ _ c.args.seen.now (e.pends c.args.inner.now) (e.pends c.plans.inner)
          (e.pends c.next_plan.new.self) i.stays c.in-Ok-Some.plan _ gave (c.in-Err-note_class.ensures.err ∙ i.seen),
    )

pub plans-smaller : goal.plans-smaller
plans-smaller g c =
    let i = c.plans.invariant in
    let e = g.I.LazyPlans in
    let gave = rw (i.system, i.mode, i.most) at (rw c.in-Ok-Some.field-0-is at c.in-Ok-Some.ensures.law) in
    let noted = rw c.in-Ok-false.field-0-test at c.in-Ok-false.ensures.ok in
    let falls = still_falls Unordered c.plans.seen (e.tells c.plans.inner) (e.tells c.next_plan.new.self)
    (g.met.I.LazyPlans.told c.plans.inner i.lawful) (g.met.I.LazyPlans.told c.next_plan.new.self
    c.in-Ok-Some.ensures.lawful) gave noted.0 in
    rw noted.1 falls

pub plans-preserved : goal.plans-preserved
plans-preserved g c =
    let i = c.plans.invariant in
    let e = g.I.LazyPlans in
    let gave = rw (i.system, i.mode, i.most) at (rw c.in-Ok-Some.field-0-is at c.in-Ok-Some.ensures.law) in
    let noted = rw (c.in-Ok-false.field-0-test, i.seen) at c.in-Ok-false.ensures.ok in
    record {
      lawful = c.in-Ok-Some.ensures.lawful;
      system = c.in-Ok-Some.ensures.system ∙ i.system;
      mode = c.in-Ok-Some.ensures.mode ∙ i.mode;
      most = c.in-Ok-Some.ensures.most ∙ i.most;
      seen = noted.1;
      held = i.held;
      stays = law_skips _ _ c.args.seen.now (e.pends c.args.inner.now) (e.pends c.plans.inner)
          (e.pends c.next_plan.new.self) i.stays c.in-Ok-Some.plan gave noted.0;
    }

pub returns-in-Err-clause-law : goal.returns-in-Err-clause-law
returns-in-Err-clause-law g c =
    let i = c.plans.invariant in
    let e = g.I.LazyPlans in
    let law = rw (i.system, i.most) at (rw c.in-Err.stop-is at c.in-Err.ensures.law) in
    law_stop _ _ c.args.seen.now (e.pends c.args.inner.now) (e.pends c.plans.inner) (e.pends c.next_plan.new.self)
    i.stays c.in-Err.stop _ c.plans.held c.requires.seen law i.seen i.held

pub note_class-requires : goal.note_class-requires
note_class-requires g c = rw c.plans.invariant.seen c.requires.seen.each

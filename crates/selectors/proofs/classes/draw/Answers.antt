use Rattle.std.proofs.Common.{◌∙◌}
use Rattle.symk_task.specs.declared.parts.Mode.TheVariants.{Unordered}
use Rattle.lazy_plans.proofs.Keyed.{key_same, keys_more}
use Rattle.selectors.proofs.Sifting.{class_taken, covers_taken, covers_skipped, sifting_falls, law_none, law_stop}
use Rattle.selectors.proofs.classes.draw.Goals as goal

pub note_class-requires : goal.note_class-requires
note_class-requires g c = rw c.plans.invariant.seen c.requires.seen.each

pub returns-in-Ok-true-clause-seen : goal.returns-in-Ok-true-clause-seen
returns-in-Ok-true-clause-seen g c =
    let i = c.plans.invariant in
    let e = g.I.LazyMembers in
    let gave = rw (i.system, i.most) at (rw c.in-Ok-Some.field-0-is at c.in-Ok-Some.ensures.law) in
    let noted = rw (c.in-Ok-true.field-0-test, i.seen) at c.in-Ok-true.ensures.ok in
    keys_more (e.system c.args.inner.now) Unordered (e.most c.args.inner.now) c.args.seen.now _ c.in-Ok-Some.plan
    noted.key c.requires.seen gave.fits noted.is noted.more

pub returns-in-Ok-true-clause-covers : goal.returns-in-Ok-true-clause-covers
returns-in-Ok-true-clause-covers g c = λ _.
    let i = c.plans.invariant in
    let e = g.I.LazyMembers in
    let gave = rw (i.system, i.most) at (rw c.in-Ok-Some.field-0-is at c.in-Ok-Some.ensures.law) in
    let noted = rw (c.in-Ok-true.field-0-test, i.seen) at c.in-Ok-true.ensures.ok in
    covers_taken _ _ c.args.seen.now (e.pends c.plans.inner) (e.pends c.next_member.new.self) i.covers
    c.in-Ok-Some.plan gave noted.key (key_same Unordered c.in-Ok-Some.plan noted.key noted.is) _ noted.more

pub returns-in-Ok-true-clause-law : goal.returns-in-Ok-true-clause-law
returns-in-Ok-true-clause-law g c =
    let i = c.plans.invariant in
    let e = g.I.LazyMembers in
    let gave = rw (i.system, i.most) at (rw c.in-Ok-Some.field-0-is at c.in-Ok-Some.ensures.law) in
    let noted = rw (c.in-Ok-true.field-0-test, i.seen) at c.in-Ok-true.ensures.ok in
    let plan = rw i.system at (g.met.I.LazyMembers.fair c.plans.inner i.lawful c.in-Ok-Some.plan gave.pended) in
    class_taken _ _ c.args.seen.now (e.pends c.plans.inner) (e.pends c.next_member.new.self) i.covers
    c.in-Ok-Some.plan gave noted.key (key_same Unordered c.in-Ok-Some.plan noted.key noted.is)
    noted.fresh plan _ noted.more

pub plans-smaller : goal.plans-smaller
plans-smaller g c =
    let i = c.plans.invariant in
    let e = g.I.LazyMembers in
    let gave = rw (i.system, i.most) at (rw c.in-Ok-Some.field-0-is at c.in-Ok-Some.ensures.law) in
    let noted = rw (c.in-Ok-false.field-0-test, i.seen) at c.in-Ok-false.ensures.ok in
    let falls = sifting_falls _ _ c.args.seen.now (e.pends c.plans.inner) (e.pends c.next_member.new.self) i.covers
    c.in-Ok-Some.plan gave (e.tells c.plans.inner) (e.tells c.next_member.new.self)
    (g.met.I.LazyMembers.told c.plans.inner i.lawful) (g.met.I.LazyMembers.told c.next_member.new.self
    c.in-Ok-Some.ensures.lawful) noted.0 in
    rw (noted.1, i.seen) falls

pub plans-preserved : goal.plans-preserved
plans-preserved g c =
    let i = c.plans.invariant in
    let e = g.I.LazyMembers in
    let gave = rw (i.system, i.most) at (rw c.in-Ok-Some.field-0-is at c.in-Ok-Some.ensures.law) in
    let noted = rw (c.in-Ok-false.field-0-test, i.seen) at c.in-Ok-false.ensures.ok in
    record {
      lawful = c.in-Ok-Some.ensures.lawful;
      system = c.in-Ok-Some.ensures.system ∙ i.system;
      most = c.in-Ok-Some.ensures.most ∙ i.most;
      seen = noted.1;
      covers = covers_skipped _ _ c.args.seen.now (e.pends c.plans.inner) (e.pends c.next_member.new.self) i.covers c.in-Ok-Some.plan gave noted.0;
    }

pub returns-in-Ok-None-clause-law : goal.returns-in-Ok-None-clause-law
returns-in-Ok-None-clause-law g c =
    let i = c.plans.invariant in
    let e = g.I.LazyMembers in
    let law = rw (i.system, i.most) at (rw c.in-Ok-None.field-0-is at c.in-Ok-None.ensures.law) in
    law_none _ _ c.args.seen.now (e.pends c.plans.inner) (e.pends c.next_member.new.self) i.covers _ i.seen law.0

pub returns-in-Err-clause-law : goal.returns-in-Err-clause-law
returns-in-Err-clause-law g c =
    let i = c.plans.invariant in
    let e = g.I.LazyMembers in
    let law = rw (i.system, i.most) at (rw c.in-Err.stop-is at c.in-Err.ensures.law) in
    let plans = rw i.system at (g.met.I.LazyMembers.fair c.plans.inner i.lawful) in
    law_stop _ _ c.args.seen.now (e.pends c.plans.inner) (e.pends c.next_member.new.self) i.covers c.in-Err.stop _ plans c.requires.seen i.seen law.0

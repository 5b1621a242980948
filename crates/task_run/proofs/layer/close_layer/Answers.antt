use Rattle.std.proofs.Common.{◌≡◌, ◌<◌, ◌∙◌, ◌++◌, ℕ, List, [], length, slice_get, IfSome, refl, sym, subst, arith}
use Rattle.std.proofs.Math.ListN.{set}
use Rattle.std.proofs.lemmas.List.{length-set}
use Rattle.task_run.specs.Layer.{Raises}
use Rattle.task_run.specs.Layer.Grows.{done, by}
use Rattle.task_run.proofs.Growing.{at_default_falls}
use Rattle.task_run.specs.Work.{AllPlaced, AllBut, Passed, waiting_at}
use Rattle.task_run.proofs.Placing.{raised_on, kept_wake, rule_at, raises_at}
use Rattle.task_run.proofs.Resuming.{passed_fresh, passed_raise}
use Rattle.task_run.proofs.layer.close_layer.Goals as goal

pub raised-init : goal.raised-init
raised-init c = record {
  each = refl;
  grows = done _;
  kept = c.requires.kept;
  placed = c.requires.placed;
  passed =
      passed_fresh c.args.parts.now c.args.layer c.args.values.now.items
      c.args.work.now.places.items c.requires.fresh;
}

pub next_raising-requires-clause-placed : goal.next_raising-requires-clause-placed
next_raising-requires-clause-placed c =
    subst (λ (z : List ℕ). AllPlaced c.args.parts.now c.args.layer z c.raised.work.stack.items
    c.raised.work.waiting.items) (sym c.deref.ensures.value) c.raised.invariant.placed

pub index_mut-requires : goal.index_mut-requires
index_mut-requires c =
    let task = c.args.parts.now in
    let up : (c.in-Some.number < length task.rules) × IfSome (slice_get task.rules c.in-Some.number)
    (Raises task c.args.layer c.deref.result.now) = rw c.in-Some.is at c.in_ok-next_raising.ensures.raises in
    let r = rule_at task c.as_slice.result.now c.in-Some.number c.index-as_slice-number.result c.requires.fits
    c.as_slice.ensures up.0 c.index-as_slice-number.is in
    omega (arith, r.within, c.requires.values, c.raised.invariant.each)

pub wake-requires : goal.wake-requires
wake-requires c =
    let task = c.args.parts.now in
    let up : (c.in-Some.number < length task.rules) × IfSome (slice_get task.rules c.in-Some.number)
    (Raises task c.args.layer c.deref.result.now) = rw c.in-Some.is at c.in_ok-next_raising.ensures.raises in
    let r = rule_at task c.as_slice.result.now c.in-Some.number c.index-as_slice-number.result c.requires.fits
    c.as_slice.ensures up.0 c.index-as_slice-number.is in
    omega (arith, r.within, c.in_ok-next_raising.ensures.kept.each)

pub raised-smaller : goal.raised-smaller
raised-smaller c =
    let task = c.args.parts.now in
    let rule = c.index-as_slice-number.result in
    let now = c.raised.values.items in
    let up : (c.in-Some.number < length task.rules) × IfSome (slice_get task.rules c.in-Some.number)
    (Raises task c.args.layer c.deref.result.now) = rw c.in-Some.is at c.in_ok-next_raising.ensures.raises in
    let r = rule_at task c.as_slice.result.now c.in-Some.number rule c.requires.fits c.as_slice.ensures up.0 c.index-as_slice-number.is in
    let it = subst (λ (z : List ℕ). Raises task c.args.layer z rule) c.deref.ensures.value
    (raises_at (Raises task c.args.layer c.deref.result.now)
    (slice_get task.rules c.in-Some.number) rule r.at up.1) in
    at_default_falls task.initial now rule.var rule.new (omega
    (arith, r.within, c.requires.values, c.raised.invariant.each))
    (omega (arith, r.within, c.requires.fits.initial)) it.opened.unraised it.opened.own.counts

pub raised-preserved : goal.raised-preserved
raised-preserved c =
    let task = c.args.parts.now in
    let layer = c.args.layer in
    let x = c.in-Some.number in
    let rule = c.index-as_slice-number.result in
    let now = c.raised.values.items in
    let old = c.next_raising.new.work.waiting.items in
    let rest = c.next_raising.new.work.stack.items in
    let kept = c.in_ok-next_raising.ensures.kept in
    let up : (x < length task.rules) × IfSome (slice_get task.rules x) (Raises task layer c.deref.result.now) =
    rw c.in-Some.is at c.in_ok-next_raising.ensures.raises in
    let but : AllBut x task layer c.deref.result.now rest old = rw c.in-Some.is at c.in_ok-next_raising.ensures.none in
    let r = rule_at task c.as_slice.result.now x rule c.requires.fits c.as_slice.ensures up.0 c.index-as_slice-number.is in
    let it = subst (λ (z : List ℕ). Raises task layer z rule) c.deref.ensures.value
    (raises_at (Raises task layer c.deref.result.now) (slice_get task.rules x) rule r.at up.1) in
    let but2 = subst (λ (z : List ℕ). AllBut x task layer z rest old) c.deref.ensures.value but in
    let lt : rule.var < length now = omega (arith, r.within, c.requires.values, c.raised.invariant.each) in
    let lt2 : rule.var < length old = omega (arith, r.within, kept.each) in
    let stack : c.wake.new.self.stack.items ≡ rest ++ waiting_at old rule.var = c.in_ok-wake-in-Some.ensures.stack in
    let places = c.in_ok-wake-in-Some.ensures.places in
    let waiting : c.wake.new.self.waiting.items ≡ set old rule.var [] = c.in_ok-wake-in-Some.ensures.waiting in
    record {
      each = length-set now rule.var rule.new ∙ c.raised.invariant.each;
      grows = by c.args.values.now.items now rule c.raised.invariant.grows r.in_rules it;
      kept = rw (stack, waiting) (kept_wake task rest old rule.var lt2 kept);
      passed = rw places (passed_raise task layer now c.next_raising.new.work.places.items rule c.requires.fits it
          (subst (λ (z : List ℕ). Passed task layer z c.next_raising.new.work.places.items) c.deref.ensures.value
          c.in_ok-next_raising.ensures.passed));
      placed = rw (stack, waiting) (raised_on task layer now rest old x rule r.at it lt lt2 but2);
    }

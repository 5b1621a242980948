use Rattle.std.proofs.Common.{◌≡◌, ◌<◌, ◌∙◌, ℕ, List, [], length, get_or, IfSome, sym, subst, arith}
use Rattle.std.proofs.lemmas.Grind.{get_or_default_zero}
use Rattle.symk_task.specs.declared.parts.Rule.{Rule}
use Rattle.task_run.specs.Work.{AllPlaced}
use Rattle.task_run.specs.RuleStatus.{LacksCondition, HaveBetween}
use Rattle.task_run.specs.Layer.{Raises}
use Rattle.task_run.proofs.Placing.{popped, back_idle, lacks_waits, lacks_within, all_stuck, kept_pop, kept_wait, rule_at, none_left}
use Rattle.task_run.proofs.Resuming.{passed_wait, ready_raises}
use Rattle.task_run.proofs.layer.next_raising.Goals as goal

pub bounds-rules-rule : goal.bounds-rules-rule
bounds-rules-rule c =
    let p = kept_pop c.args.parts.now c.looking.work.stack.items c.pop.new.self.items c.looking.work.waiting.items
    c.in-Some.number c.in-Some.ensures.items c.looking.invariant.kept in
    subst (λ (z : List Rule). c.in-Some.number < length z) (sym c.as_slice-rules.ensures) p.1

pub index-requires : goal.index-requires
index-requires c =
    let p = kept_pop c.args.parts.now c.looking.work.stack.items c.pop.new.self.items c.looking.work.waiting.items
    c.in-Some.number c.in-Some.ensures.items c.looking.invariant.kept in
    let full = c.looking.work.places.ok in
    let each = c.looking.invariant.passed.each in
    omega (arith, full, each, p.1)

pub status_of-requires-clause-rule : goal.status_of-requires-clause-rule
status_of-requires-clause-rule c =
    let p = kept_pop c.args.parts.now c.looking.work.stack.items c.pop.new.self.items c.looking.work.waiting.items
    c.in-Some.number c.in-Some.ensures.items c.looking.invariant.kept in
    let r = rule_at c.args.parts.now c.as_slice-rules.result.now c.in-Some.number c.index-rules-rule.result
    c.requires.fits c.as_slice-rules.ensures p.1 c.index-rules-rule.is in
    r.fit

pub returns-in-Ready-clause-kept : goal.returns-in-Ready-clause-kept
returns-in-Ready-clause-kept c =
    let p = kept_pop c.args.parts.now c.looking.work.stack.items c.pop.new.self.items c.looking.work.waiting.items
    c.in-Some.number c.in-Some.ensures.items c.looking.invariant.kept in
    p.0

pub returns-in-Ready-clause-none : goal.returns-in-Ready-clause-none
returns-in-Ready-clause-none c = popped c.args.parts.now c.args.layer c.args.values.now c.looking.work.stack.items
    c.pop.new.self.items c.looking.work.waiting.items c.in-Some.number c.in-Some.ensures.items
    c.looking.invariant.placed

pub returns-in-Ready-clause-raises : goal.returns-in-Ready-clause-raises
returns-in-Ready-clause-raises c =
    let task = c.args.parts.now in
    let p = kept_pop c.args.parts.now c.looking.work.stack.items c.pop.new.self.items c.looking.work.waiting.items
    c.in-Some.number c.in-Some.ensures.items c.looking.invariant.kept in
    let r = rule_at c.args.parts.now c.as_slice-rules.result.now c.in-Some.number c.index-rules-rule.result
    c.requires.fits c.as_slice-rules.ensures p.1 c.index-rules-rule.is in
    let from : c.index.result.now ≡ get_or c.looking.work.places.items c.in-Some.number 0 = c.index.ensures
    ∙ get_or_default_zero c.looking.work.places.items c.in-Some.number c.index.result.now
    (subst (λ (n : ℕ). c.in-Some.number < n) (sym c.looking.invariant.passed.each) p.1) in
    let rest = subst (λ (n : ℕ). HaveBetween c.args.values.now c.index-rules-rule.result.conds n
    (length c.index-rules-rule.result.conds)) from c.in-Ready.ensures.1 in
    let found = ready_raises task c.args.layer c.args.values.now c.looking.work.places.items c.in-Some.number
    c.index-rules-rule.result r.at c.in-Ready.ensures.0 rest c.looking.invariant.passed in
    (p.1, subst (λ o. IfSome o (Raises task c.args.layer c.args.values.now)) (sym r.at) found)

pub wait-requires-clause-rule : goal.wait-requires-clause-rule
wait-requires-clause-rule c =
    let p = kept_pop c.args.parts.now c.looking.work.stack.items c.pop.new.self.items c.looking.work.waiting.items
    c.in-Some.number c.in-Some.ensures.items c.looking.invariant.kept in
    subst (λ (n : ℕ). c.in-Some.number < n) (sym c.looking.invariant.passed.each) p.1

pub wait-requires-clause-var : goal.wait-requires-clause-var
wait-requires-clause-var c =
    let task = c.args.parts.now in
    let p = kept_pop c.args.parts.now c.looking.work.stack.items c.pop.new.self.items c.looking.work.waiting.items
    c.in-Some.number c.in-Some.ensures.items c.looking.invariant.kept in
    let r = rule_at c.args.parts.now c.as_slice-rules.result.now c.in-Some.number c.index-rules-rule.result
    c.requires.fits c.as_slice-rules.ensures p.1 c.index-rules-rule.is in
    subst (λ (n : ℕ). c.in-WaitsFor.var < n) (sym c.looking.invariant.kept.each)
    (lacks_within task c.args.layer c.args.values.now c.index-rules-rule.result c.index.result.now
    c.in-WaitsFor.place c.in-WaitsFor.var r.fit c.in-WaitsFor.ensures)

pub looking-preserved-in-Continue-1 : goal.looking-preserved-in-Continue-1
looking-preserved-in-Continue-1 c =
    let task = c.args.parts.now in
    let old = c.looking.work.waiting.items in
    let rest = c.pop.new.self.items in
    let x = c.in-Some.number in
    let var = c.in-WaitsFor.var in
    let rule = c.index-rules-rule.result in
    let p = kept_pop c.args.parts.now c.looking.work.stack.items c.pop.new.self.items c.looking.work.waiting.items
    c.in-Some.number c.in-Some.ensures.items c.looking.invariant.kept in
    let r = rule_at c.args.parts.now c.as_slice-rules.result.now c.in-Some.number c.index-rules-rule.result
    c.requires.fits c.as_slice-rules.ensures p.1 c.index-rules-rule.is in
    let but = popped task c.args.layer c.args.values.now c.looking.work.stack.items rest old x c.in-Some.ensures.items c.looking.invariant.placed in
    let stack = c.in_ok-wait-in-WaitsFor.ensures.stack in
    let waiting = c.in_ok-wait-in-WaitsFor.ensures.waiting in
    let places = c.in_ok-wait-in-WaitsFor.ensures.places in
    let lt : var < length old = subst (λ (n : ℕ). var < n) (sym c.looking.invariant.kept.each)
    (lacks_within task c.args.layer c.args.values.now rule c.index.result.now c.in-WaitsFor.place var r.fit
    c.in-WaitsFor.ensures) in
    let from : c.index.result.now ≡ get_or c.looking.work.places.items x 0 = c.index.ensures
    ∙ get_or_default_zero c.looking.work.places.items x c.index.result.now
    (subst (λ (n : ℕ). x < n) (sym c.looking.invariant.passed.each) p.1) in
    let found = subst (λ (n : ℕ). LacksCondition task c.args.layer c.args.values.now rule n c.in-WaitsFor.place var) from c.in-WaitsFor.ensures in
    record {
      kept = rw (stack, waiting) (kept_wait task rest old var x lt p.1 p.0);
      placed = rw (stack, waiting) (lacks_waits rest old x r.at c.in-WaitsFor.ensures lt but);
      passed = rw places (passed_wait x r.at p.1 found c.looking.invariant.passed);
    }

pub looking-preserved : goal.looking-preserved
looking-preserved c =
    let task = c.args.parts.now in
    let old = c.looking.work.waiting.items in
    let rest = c.pop.new.self.items in
    let x = c.in-Some.number in
    let rule = c.index-rules-rule.result in
    let p = kept_pop c.args.parts.now c.looking.work.stack.items c.pop.new.self.items c.looking.work.waiting.items
    c.in-Some.number c.in-Some.ensures.items c.looking.invariant.kept in
    let r = rule_at c.args.parts.now c.as_slice-rules.result.now c.in-Some.number c.index-rules-rule.result
    c.requires.fits c.as_slice-rules.ensures p.1 c.index-rules-rule.is in
    let but = popped task c.args.layer c.args.values.now c.looking.work.stack.items rest old x c.in-Some.ensures.items c.looking.invariant.placed in
    record {
      kept = p.0;
      placed = back_idle task c.args.layer c.args.values.now rest old x rule r.at c.in-Done.ensures
          but;
      passed = c.looking.invariant.passed;
    }

pub returns-clause-none : goal.returns-clause-none
returns-clause-none c =
    let empty : c.looking.work.stack.items ≡ [] = none_left c.looking.work.stack.items
    (let e = c.in_default.ensures.cases.0 in let k = c.looking.work.stack.ok in omega (arith, e, k)) in
    all_stuck c.args.parts.now c.args.layer c.args.values.now c.looking.work.waiting.items
    (subst (λ (z : List ℕ). AllPlaced c.args.parts.now c.args.layer c.args.values.now z
    c.looking.work.waiting.items) empty c.looking.invariant.placed)

use Rattle.std.proofs.Common.{◌≡◌, ℕ, List, length, get_or, below_more, sym, ap, subst, arith}
use Rattle.std.proofs.lemmas.List.{get_or_default}
use Rattle.std.proofs.lemmas.List.Elements.{Contains-get_or, at_read}
use Rattle.symk_task.specs.declared.parts.Rule.{Rule}
use Rattle.task_run.specs.Values.{AreBelow}
use Rattle.stubborn_sets.specs.Barring.{IsStopped}
use Rattle.stubborn_sets.specs.Depending.{IsRuleBelow}
use Rattle.stubborn_sets.proofs.DependingLaw.{rules_below}
use Rattle.stubborn_sets.proofs.GrowingLaw.{adds_trans}
use Rattle.stubborn_sets.proofs.Needs.{stopped_grows}
use Rattle.stubborn_sets.proofs.Stopping.{all_stopped}
use Rattle.stubborn_sets.proofs.barring.bar_rules.Goals as goal

pub bounds-rules-number : goal.bounds-rules-number
bounds-rules-number c =
    let numbers = c.rules_for-number-items.result.now in
    let within = c.rules_for-number-items.ensures.within (get_or numbers c.loop-number.number-index 0)
    (Contains-get_or numbers c.loop-number.number-index 0 c.loop-number-test.true) in
    omega (arith, within, ap (λ (z : List Rule). length z) c.as_slice-rules.ensures)

pub bar_rule-requires-clause-within : goal.bar_rule-requires-clause-within
bar_rule-requires-clause-within c =
    let parts = c.args.parts.now in
    let numbers = c.rules_for-number-items.result.now in
    let number = get_or numbers c.loop-number.number-index 0 in
    let rule = c.index-rules-number.result in
    let within = c.rules_for-number-items.ensures.within number (Contains-get_or numbers c.loop-number.number-index 0 c.loop-number-test.true) in
    let same : rule ≡ get_or parts.rules number rule = subst (λ (z : List Rule). rule ≡ get_or z number rule)
    c.as_slice-rules.ensures c.index-rules-number.is in
    let below : IsRuleBelow (length parts.variables) rule = subst (IsRuleBelow (length parts.variables)) (sym same)
    (rules_below parts c.requires.fits number rule within) in
    subst (λ (n : ℕ). AreBelow n rule.conds) (sym c.requires.valued) below.1

pub loop-number-preserved : goal.loop-number-preserved
loop-number-preserved c =
    let parts = c.args.parts.now in
    let values = c.args.values.now in
    let numbers = c.rules_for-number-items.result.now in
    let n = c.loop-number.number-index in
    let number = get_or numbers n 0 in
    let rule = c.index-rules-number.result in
    let bars = c.loop-number.barred in
    let next = c.bar_rule.new.barred in
    let old = c.loop-number.set in
    let new = c.bar_rule.new.set in
    let spreads = c.in_ok-bar_rule.ensures.spreads in
    let added = c.in_ok-bar_rule.ensures.adds in
    let within = c.rules_for-number-items.ensures.within number (Contains-get_or numbers n 0 c.loop-number-test.true) in
    let same : rule ≡ get_or parts.rules number rule = subst (λ (z : List Rule). rule ≡ get_or z number rule)
    c.as_slice-rules.ensures c.index-rules-number.is in
    let here : IsStopped parts values next.marks.items new.marks.items rule = c.in_ok-bar_rule.ensures.bars c.if-not-branch.false in
    let P : Rule → Type 0 = IsStopped parts values next.marks.items new.marks.items in
    record {
      spreads = adds_trans c.args.barred.now bars next c.loop-number.invariant.spreads spreads;
      adds = adds_trans c.args.set.now old new c.loop-number.invariant.adds added;
      rules = λ j d e. below_more (λ j. P (get_or parts.rules (get_or numbers j d) e)) n
          (λ j lt. stopped_grows parts values bars.marks.items next.marks.items old.marks.items new.marks.items
          (get_or parts.rules (get_or numbers j d) e) spreads.grows added.grows
          (c.loop-number.invariant.rules j d e lt))
          (subst (λ (k : ℕ). P (get_or parts.rules k e)) (get_or_default numbers n 0 d c.loop-number-test.true)
          (at_read parts.rules P number rule within same here e)) j;
    }

pub returns-clause-bars : goal.returns-clause-bars
returns-clause-bars c = λ _.
    let numbers = c.rules_for-number-items.result.now in
    all_stopped c.args.parts.now c.args.values.now c.loop-number.barred.marks.items c.loop-number.set.marks.items
    c.args.var numbers c.rules_for-number-items.ensures
    (λ j d e lt. c.loop-number.invariant.rules j d e (omega (arith, lt, c.loop-number-test.false)))

-- The conditions of a rule before the place where the last look at it stopped keep their values.
use Rattle.std.proofs.Common.{◌≡◌, ℕ, ◌-◌, ◌<◌, inl, inr, List, [], length, get_or, Some, slice_get, sym, ap, subst, ◌∙◌, arith}
use Rattle.std.proofs.Math.ListN.{set}
use Rattle.std.specs.List.{All}
use Rattle.std.proofs.lemmas.Bool.{cases_eq, cases_lt}
use Rattle.std.proofs.lemmas.List.{length-set, get_or-set_same, get_or-set_other}
use Rattle.std.proofs.lemmas.Option.{get_or_from_slice_get, slice_get_within}
use Rattle.symk_task.specs.declared.parts.Fact.{Fact}
use Rattle.symk_task.specs.declared.parts.Rule.{Rule}
use Rattle.symk_task.specs.declared.parts.TaskParts.{TaskParts}
use Rattle.symk_task.specs.Variables.{HasLayer}
use Rattle.symk_task.specs.Fits.{Fits, FitsRule, MayStand}
use Rattle.task_run.specs.Values.{HasValue}
use Rattle.task_run.specs.Layer.{IsOwnRule, IsOpenRule, Raises}
use Rattle.task_run.specs.Work.{HasBefore, IsFresh, Passed}
use Rattle.task_run.specs.RuleStatus.{HaveBetween, LacksCondition}
use Rattle.symk_task.proofs.Layers.{base_derived, one_layer, two_values}
use Rattle.task_run.proofs.Layers.{counts, may}

same_rule : (task : TaskParts) (x y : ℕ) (rule other : Rule) → y ≡ x → slice_get task.rules x ≡ Some rule → slice_get task.rules y ≡ Some other → rule ≡ other
same_rule task x y rule other e at at2 = (let k : slice_get task.rules x ≡ Some other = ap (λ (z : ℕ). slice_get task.rules z) (sym e) ∙ at2 in cc)

-- what a rule of the layer has, it has after another raised its variable
still_has : (task : TaskParts) (layer : ℕ) (values : List ℕ) (rule other : Rule) (fact : Fact) → Fits task
    → Raises task layer values rule → MayStand task layer fact → HasValue values fact
    → HasValue (set values rule.var rule.new) fact
still_has task layer values rule other fact fits raises may_stand h = elim (cases_eq fact.var rule.var) [
  | inr ne ↦ get_or-set_other values rule.var fact.var rule.new 0 ne ∙ h
  | inl e ↦ absurd (go e may_stand)
]
  where
    on : HasLayer task rule.var layer
    on = raises.opened.own.on

    go : fact.var ≡ rule.var → MayStand task layer fact → ⊥
    go e (inl b) = base_derived task fact.var layer b (subst (λ (z : ℕ). HasLayer task z layer) (sym e) on)
    go e (inr (below, l, inl lt)) = (let k = one_layer task fact.var below layer l
        (subst (λ (z : ℕ). HasLayer task z layer) (sym e) on) in omega (arith, k, lt))
    go e (inr (below, l, inr (is, val))) =
        let t = two_values task rule.var layer fits on in
        let u : get_or values rule.var 0 ≡ get_or task.initial rule.var 0 = raises.opened.unraised in
        let a : get_or values fact.var 0 ≡ get_or values rule.var 0 = ap (λ (z : ℕ). get_or values z 0) e in
        let b : get_or task.initial fact.var 0 ≡ get_or task.initial rule.var 0 = ap (λ (z : ℕ). get_or task.initial z 0) e in
        let v : fact.val ≡ 1 - get_or task.initial fact.var 0 = val in
        let i = t.initial in
        omega (arith, u, a, b, v, h, i)

pub passed_raise : (task : TaskParts) (layer : ℕ) (values places : List ℕ) (rule : Rule) → Fits task
    → Raises task layer values rule → Passed task layer values places
    → Passed task layer (set values rule.var rule.new) places
passed_raise task layer values places rule fits raises p = record {
  each = p.each;
  own = λ x other at own k d lt lt2. still_has task layer values rule other (get_or other.conds k d) fits raises
      (stands x other at own k d lt2) (p.own x other at own k d lt lt2);
  later = p.later;
}
  where
    stands : (x : ℕ) (other : Rule) → slice_get task.rules x ≡ Some other → IsOwnRule task layer other → All (MayStand task layer) other.conds
    stands x other at own = (let fit = fits_at x other at in may task [] layer fits other fit own.on
        (counts task [] layer fits values other fit own.on own.counts))
      where
        fits_at : (x : ℕ) (other : Rule) → slice_get task.rules x ≡ Some other → FitsRule task other
        fits_at x other at = subst (FitsRule task) (get_or_from_slice_get task.rules x other other at)
            (fits.each_rule x other (slice_get_within task.rules x other at))

pub passed_wait : {task : TaskParts} {layer : ℕ} {values places : List ℕ} (x : ℕ) {rule : Rule} {place var : ℕ}
    → slice_get task.rules x ≡ Some rule → x < length task.rules
    → LacksCondition task layer values rule (get_or places x 0) place var → Passed task layer values places
    → Passed task layer values (set places x place)
passed_wait {task} {layer} {values} {places} x {rule} {place} {var} at lt l p = record {
  each = length-set places x place ∙ p.each;
  own = λ y other at2 own. elim (cases_eq y x) [
    | inl e ↦ (
        let same = same_rule task x y rule other e at at2 in
        let here : get_or (set places x place) y 0 ≡ place = rw e (get_or-set_same places x place 0 within) in
        subst (λ (z : ℕ). HasBefore values other z) (sym here)
        (subst (λ (z : Rule). HasBefore values z place) same
        (longer (subst (λ (z : Rule). IsOwnRule task layer z) (sym same) own))))
    | inr ne ↦ subst (λ (z : ℕ). HasBefore values other z) (sym (get_or-set_other places x y place 0 ne)) (p.own y other at2 own)
  ];
  later = λ y other high at2 own far. elim (cases_eq y x) [
    | inl e ↦ (
        let same = same_rule task x y rule other e at at2 in
        let k = one_layer task other.var layer high (subst (λ (z : Rule). HasLayer task z.var layer) same l.opened.own.on) own.on in
        absurd (omega (arith, k, far)))
    | inr ne ↦ get_or-set_other places x y place 0 ne ∙ p.later y other high at2 own far
  ];
}
  where
    within : x < length places
    within = (let e = p.each in omega (arith, e, lt))

    longer : IsOwnRule task layer rule → HasBefore values rule place
    longer own k d small in_conds = elim (cases_lt k (get_or places x 0)) [
      | inl less ↦ p.own x rule at own k d less in_conds
      | inr more ↦ l.first.before k d more small
    ]

pub passed_fresh : (task : TaskParts) (layer : ℕ) (values places : List ℕ) → IsFresh task layer places → Passed task layer values places
passed_fresh task layer values places f = record {
  each = f.each;
  own = λ x rule at own k d lt. (let e = f.later x rule layer at own (λ h. omega (arith, h)) in absurd (omega (arith, e, lt)));
  later = λ x rule high at own far. f.later x rule high at own (λ h. omega (arith, h, far));
}

-- a rule whose last conditions have their values raises its variable
pub ready_raises : (task : TaskParts) (layer : ℕ) (values places : List ℕ) (x : ℕ) (rule : Rule)
    → slice_get task.rules x ≡ Some rule → IsOpenRule task layer values rule
    → HaveBetween values rule.conds (get_or places x 0) (length rule.conds) → Passed task layer values places
    → Raises task layer values rule
ready_raises task layer values places x rule at open_now rest p = record {
  opened = open_now;
  conds = λ k d lt. elim (cases_lt k (get_or places x 0)) [
    | inl less ↦ p.own x rule at open_now.own k d less lt
    | inr more ↦ rest k d more lt
  ];
}

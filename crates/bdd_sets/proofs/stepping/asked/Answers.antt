use Rattle.std.proofs.Common.{◌≡◌, ◌↔◌, ℕ, List, length, get_or, sym, ◌∙◌, ap, subst, arith}
use Rattle.std.specs.List.{Contains}
use Rattle.symk_task.specs.declared.parts.Effect.{Effect}
use Rattle.symk_task.specs.declared.parts.Fact.{Fact}
use Rattle.bdd_sets.proofs.FactLists.{AskedBelow, asked_none, asked_more, asked_all}
use Rattle.bdd_sets.proofs.stepping.asked.Goals as goal

pub effects-init : goal.effects-init
effects-init c =
    let prevail = c.args.operator.now.prevail in
    let same : c.of-facts.result ≡ prevail = c.of-facts.ensures ∙ c.in_ok-from_slice.ensures.items ∙ c.as_slice.ensures in
    asked_none (λ f. Contains prevail f) c.args.operator.now.effects c.of-facts.result
    (λ f. subst (λ (xs : List Fact). Contains xs f ↔ Contains prevail f) (sym same) ((λ h. h), (λ h. h)))

pub effects-preserved : goal.effects-preserved
effects-preserved c =
    let o = c.args.operator.now in
    let same = c.as_slice-effect-items.ensures in
    let is = subst (λ (es : List Effect). c.effect-item.result ≡ get_or es c.effects.effect-index c.effect-item.result) same c.effect-item.is in
    asked_more (λ f. Contains o.prevail f) o.effects c.effects.effect-index c.effects.facts c.add_value.new.facts c.effect-item.result
    (let t = c.effects-test.true in let l = ap (λ (es : List Effect). length es) same in omega (arith, t, l)) is c.effects.invariant c.in_ok-add_value.ensures

pub returns : goal.returns
returns c =
    let o = c.args.operator.now in
    let l = ap (λ (es : List Effect). length es) c.as_slice-effect-items.ensures in
    let all : c.effects.effect-index ≡ length o.effects = (let t = c.effects-test.false in let e = c.effects.auto.effect-index-end in omega (arith, t, e, l)) in
    asked_all o c.effects.facts (subst (λ (n : ℕ). AskedBelow (λ f. Contains o.prevail f) o.effects n c.effects.facts) all c.effects.invariant)

-- A rule that widens a set is the rule tried in each state.
use Rattle.std.proofs.Common.{◌≡◌, ℕ, ◌-◌, ◌<◌, ◌↔◌, inl, inr, Bool, true, false, cond, ◌||◌, List, length, get_or, Option, Some, None, refl, sym, ap, subst, ◌∙◌, arith, true≢false}
use Rattle.std.proofs.Math.ListN.{set}
use Rattle.std.specs.List.{All}
use Rattle.std.proofs.lemmas.Bool.{cases_eq}
use Rattle.std.proofs.lemmas.List.{length-set, get_or-set_same, get_or-set_other}
use Rattle.symk_task.specs.declared.parts.Rule.{Rule}
use Rattle.symk_task.specs.declared.parts.TaskParts.{TaskParts}
use Rattle.symk_task.specs.Variables.{IsState, layer_of, other_value}
use Rattle.symk_task.specs.Fits.{Fits, FitsRule}
use Rattle.symk_task.proofs.Layers.{Two, two_values}
use Rattle.symk_task.proofs.Places.{within_some}
use Rattle.task_run.specs.Values.{HasValue}
use Rattle.bdd_table.specs.declared.node.Node.{Node}
use Rattle.bdd_table.specs.Diagram.{Bits, means, Keeps}
use Rattle.var_order.specs.Layout.{Layout}
use Rattle.var_order.specs.Codes.{IsCode}
use Rattle.axiom_layers.specs.Roots.{AreSets}
use Rattle.axiom_layers.specs.Raising.{value_by_roots, values_of, IsTrueExactlyWhere, IsReady, RuleTurn}
use Rattle.axiom_layers.proofs.RootValues.{values_length, value_there, values_are, same_values, kept_values, derived_value, layer_is}
use Rattle.axiom_layers.proofs.FactSets.{other_differs}

pub rule_within : (task : TaskParts) (o : Layout) (xs : List Node) (roots : List ℕ) (rule : Rule) → FitsRule task rule
    → AreSets task o xs roots → rule.var < length roots
rule_within task o xs roots rule fit are = (let w = within_some (λ v. v.layer ≡ Some fit.layer) task.variables
    rule.var fit.on in let e = are.each in omega (arith, w, e))

module _ (task : TaskParts) (o : Layout) (rule : Rule) (xs ys zs : List Node) (roots : List ℕ) (conds root : ℕ)
    (fits : Fits task) (fit : FitsRule task rule) (counts : rule.new ≡ get_or task.initial rule.var 0 → ⊥)
    (are : AreSets task o xs roots) (xy : Keeps xs ys) (yz : Keeps ys zs) (known : conds < length ys)
    (says : IsTrueExactlyWhere task o ys roots (λ values. All (HasValue values) rule.conds) conds)
    (m : (b : Bits) → means zs root b ≡ (means ys (get_or roots rule.var 0) b || means ys conds b)) where
  two : Two task rule.var fit.layer
  two = two_values task rule.var fit.layer fits fit.on

  within : rule.var < length roots
  within = rule_within task o xs roots rule fit are

  new_is : rule.new ≡ other_value task rule.var
  new_is = (let n = fit.new in let t = two.initial in let k : rule.new ≡ 1 - get_or task.initial rule.var 0 = omega (arith, n, counts, t) in k)

  differs : other_value task rule.var ≡ get_or task.initial rule.var 0 → ⊥
  differs = other_differs task rule.var fit.layer fits fit.on

  up : (b : Bits) (k : ℕ) → k < length roots → means zs (get_or roots k 0) b ≡ means xs (get_or roots k 0) b
  up b k lt = (let h = are.known k lt in let l = xy.known in yz.meaning (get_or roots k 0) b (omega (arith, h, l)) ∙ xy.meaning (get_or roots k 0) b h)

  abbrev more : List ℕ
  more = set roots rule.var root

  module _ (s : List ℕ) (b : Bits) (state : IsState task s) (code : IsCode o 0 s b) where
    abbrev old : List ℕ
    old = values_of task xs roots s b

    at_old : get_or old rule.var 0 ≡ cond (means xs (get_or roots rule.var 0) b) (other_value task rule.var) (get_or task.initial rule.var 0)
    at_old = derived_value task xs roots s b rule.var fit.layer fit.on

    root_is : means zs root b ≡ (means xs (get_or roots rule.var 0) b || means ys conds b)
    root_is = m b ∙ ap (λ (t : Bool). t || means ys conds b) (xy.meaning (get_or roots rule.var 0) b (are.known rule.var within))

    conds_are : (means ys conds b ≡ true) ↔ All (HasValue old) rule.conds
    conds_are = (let h = says s b state code in let e = kept_values task o xs ys roots s b xy are in
        ((λ t. subst (λ (v : List ℕ). All (HasValue v) rule.conds) e (h.0 t)), (λ a. h.1 (subst (λ (v : List ℕ). All (HasValue v) rule.conds) (sym e) a))))

    stays : means zs root b ≡ means xs (get_or roots rule.var 0) b → values_of task zs more s b ≡ old
    stays e = same_values task xs zs roots more s b (λ k lt. elim (cases_eq k rule.var) [
      | inl same ↦ (let g = get_or-set_same roots rule.var root 0 within in rw same (ap (λ i. means zs i b) g ∙ e))
      | inr ne ↦ ap (λ i. means zs i b) (get_or-set_other roots rule.var k root 0 ne) ∙ up b k (omega (arith, lt, are.each))
    ])

    raised : means zs root b ≡ true → values_of task zs more s b ≡ set old rule.var rule.new
    raised e = sym (values_are task zs more s b (set old rule.var rule.new)
        (length-set old rule.var rule.new ∙ values_length task xs roots s b) (λ k lt. elim (cases_eq k rule.var) [
          | inl same ↦ rw same (get_or-set_same old rule.var rule.new 0
              (let n = values_length task xs roots s b in let t = two.within in omega (arith, n, t)) ∙ new_is
              ∙ sym here)
          | inr ne ↦ get_or-set_other old rule.var k rule.new 0 ne ∙ value_there task xs roots s b k lt ∙ there k ne lt (layer_of task k)
        ]))
      where
        here : value_by_roots task zs more s b rule.var (layer_of task rule.var) ≡ other_value task rule.var
        here = ap (λ z. value_by_roots task zs more s b rule.var z) (layer_is task rule.var fit.layer fit.on)
            ∙ ap (λ i. cond (means zs i b) (other_value task rule.var) (get_or task.initial rule.var 0)) (get_or-set_same roots rule.var root 0 within)
            ∙ ap (λ t. cond t (other_value task rule.var) (get_or task.initial rule.var 0)) e

        there : (k : ℕ) → (k ≡ rule.var → ⊥) → k < length task.variables → (l : Option ℕ)
            → value_by_roots task xs roots s b k l ≡ value_by_roots task zs more s b k l
        there k ne lt None = refl
        there k ne lt (Some n) = ap (λ t. cond t (other_value task k) (get_or task.initial k 0))
            (sym (ap (λ i. means zs i b) (get_or-set_other roots rule.var k root 0 ne)
            ∙ up b k (omega (arith, lt, are.each))))

    or_false : (u v : Bool) → v ≡ false → (u || v) ≡ u
    or_false true v e = refl
    or_false false v e = e

    not_ready : (means xs (get_or roots rule.var 0) b ≡ true) → IsReady task old rule → ⊥
    not_ready u r = differs (sym (at_old ∙ ap (λ t. cond t (other_value task rule.var) (get_or task.initial rule.var 0)) u) ∙ r.unraised)

    pub turned : RuleTurn task rule old (values_of task zs more s b)
    turned = (elim (means ys conds b) as (λ v. means ys conds b ≡ v → RuleTurn task rule old (values_of task zs more s b)) [
      | false ↦ λ v. inr (
        (λ r. true≢false (sym (conds_are.1 r.conds) ∙ v)),
        stays
            (root_is ∙ or_false (means xs (get_or roots rule.var 0) b) (means ys conds b) v),
      )
      | true ↦ λ v. (elim (means xs (get_or roots rule.var 0) b) as
          (λ u. means xs (get_or roots rule.var 0) b ≡ u → RuleTurn task rule old (values_of task zs more s b)) [
            | true ↦ λ u. inr (not_ready u, stays (root_is ∙ ap (λ (t : Bool). t || means ys conds b) u ∙ sym u))
            | false ↦ λ u. inl (
              record {
                unraised = at_old ∙ ap (λ t. cond t (other_value task rule.var) (get_or task.initial rule.var 0)) u;
                conds = conds_are.0 v;
              },
              raised (root_is ∙ ap (λ (t : Bool). t || means ys conds b) u ∙ v),
            )
          ]) refl
    ]) refl

-- The rules of a layer among those of all layers.
use Rattle.std.proofs.Common.{◌≡◌, ℕ, ◌+◌, ◌-◌, ◌<◌, ◌≤◌, inl, inr, List, length, get_or, take, drop, Contains, Option, Some, IsSomeAnd, slice_get, refl, sym, ap, subst, ◌∙◌, arith}
use Rattle.std.specs.List.{All}
use Rattle.std.proofs.lemmas.Bool.{cases_lt}
use Rattle.std.proofs.lemmas.List.{length-take-le, length-drop, get_or-take, get_or-drop}
use Rattle.std.proofs.lemmas.Option.{slice_get_read}
use Rattle.symk_task.specs.declared.parts.Rule.{Rule}
use Rattle.symk_task.specs.declared.parts.TaskParts.{TaskParts}
use Rattle.symk_task.specs.Fits.{Fits, FitsRule}
use Rattle.task_run.specs.declared.counting.Counting.{Counting}
use Rattle.task_run.specs.Counted.{IsCounting, AreRulesOf, IsLayer}
use Rattle.task_run.specs.Layer.{IsOwnRule}
use Rattle.task_run.proofs.Bucketing.{counting_within}
use Rattle.axiom_layers.specs.Raising.{AreOfLayer}

-- The rules before the place are for lower layers, and those from it on are not.
pub record IsBegun (rules : List Counting) (layer at : ℕ) : Type 0 where
  pub within : at ≤ length rules
  pub past : (k : ℕ) (d : Counting) → k < at → (get_or rules k d).layer < layer
  pub left : (k : ℕ) (d : Counting) → at ≤ k → k < length rules → layer ≤ (get_or rules k d).layer

pub first_begun : (rules : List Counting) → IsBegun rules 0 0
first_begun rules = record { within = omega arith; past = λ k d lt. absurd (omega (arith, lt)); left = λ k d low lt. omega arith }

pub next_begun : (task : TaskParts) (rules : List Counting) (layer at end : ℕ) → AreRulesOf task rules
    → IsBegun rules layer at → IsLayer rules layer at end → IsBegun rules (layer + 1) end
next_begun task rules layer at end are i l = record {
  within = l.within;
  past = λ k d near. elim (cases_lt k at) [
    | inl before ↦ (let h = i.past k d before in omega (arith, h))
    | inr after ↦ (let h = l.same k d after near in omega (arith, h))
  ];
  left = λ k d far within. (
      let inside : end < length rules = omega (arith, far, within) in
      let a = i.left end d l.rising inside in
      let b = are.by_layer end k d far within in
      let ne = l.last inside d in
      omega (arith, a, b, ne));
}

-- a list whose elements are those between two places
pub record IsBetween (rules part : List Counting) (from end : ℕ) : Type 0 where
  pub each : length part ≡ end - from
  pub same : (k : ℕ) (d : Counting) → k < end - from → get_or part k d ≡ get_or rules (from + k) d

pub slice_between : (rules : List Counting) (from end : ℕ) → from ≤ end → end ≤ length rules → IsBetween rules (take (end - from) (drop from rules)) from end
slice_between rules from end rising within = record {
  each = length-take-le (end - from) (drop from rules) (let l = length-drop from rules in omega (arith, rising, within, l));
  same = λ k d lt. get_or-take (end - from) (drop from rules) k d lt ∙ get_or-drop from rules k d;
}

pub layer_rules : (task : TaskParts) (rules part : List Counting) (layer from end : ℕ) → AreRulesOf task rules
    → IsBegun rules layer from → IsLayer rules layer from end → IsBetween rules part from end
    → AreOfLayer task layer part
layer_rules task rules part layer from end are i l p = record {
  counting = λ k d lt. subst (IsCounting task) (sym (p.same k d (within k lt))) (are.counting (from + k) d (far k lt));
  same = λ k d lt. ap (λ (x : Counting). x.layer) (p.same k d (within k lt)) ∙ l.same (from + k) d (omega arith) (let w = within k lt in omega (arith, w));
  each = λ x counts at. go x at (are.each x counts);
}
  where
    within : (k : ℕ) → k < length part → k < end - from
    within k lt = omega (arith, lt, p.each)

    far : (k : ℕ) → k < length part → from + k < length rules
    far k lt = (let w = within k lt in let e = l.within in omega (arith, w, e))

    go : (x : Counting) → x.layer ≡ layer → Contains rules x → Contains part x
    go x at (k, lt, is) = elim (cases_lt k from) [
      | inl before ↦ (let h = i.past k x before in let e = ap (λ (y : Counting). y.layer) is in absurd (omega (arith, h, e, at)))
      | inr after ↦ elim (cases_lt k end) [
        | inl inside ↦ (
            let w : k - from < end - from = omega (arith, after, inside) in (
              k - from,
              (let e = p.each in omega (arith, w, e)),
              p.same (k - from) x w
                  ∙ ap (λ (n : ℕ). get_or rules n x) (let e : from + (k - from) ≡ k = omega (arith, after) in e)
                  ∙ is,
            ))
        | inr beyond ↦ (
            let n = next_begun task rules layer from end are i l in
            let h = n.left k x beyond lt in
            let e = ap (λ (y : Counting). y.layer) is in
            absurd (omega (arith, h, e, at)))
      ]
    ]

-- the rules of a layer count
pub part_counts : (task : TaskParts) (rules part : List Counting) (from end : ℕ) → AreRulesOf task rules
    → end ≤ length rules → IsBetween rules part from end → All (IsCounting task) part
part_counts task rules part from end are most p k d lt =
    let w : k < end - from = omega (arith, lt, p.each) in
    subst (IsCounting task) (sym (p.same k d w)) (are.counting (from + k) d (omega (arith, w, most)))

-- A rule that counts, read from the task.
pub record IsRuleOf (task : TaskParts) (counting : Counting) (rule : Rule) : Type 0 where
  pub at : slice_get task.rules counting.rule ≡ Some rule
  pub fits : FitsRule task rule
  pub counts : rule.new ≡ get_or task.initial rule.var 0 → ⊥

pub rule_read : (task : TaskParts) (rules : List Rule) (counting : Counting) (rule : Rule) → Fits task
    → IsCounting task counting → rules ≡ task.rules → rule ≡ get_or rules counting.rule rule
    → IsRuleOf task counting rule
rule_read task rules counting rule fits c same is =
    let lt = counting_within task counting c in
    let here : rule ≡ get_or task.rules counting.rule rule = is ∙ ap (λ (z : List Rule). get_or z counting.rule rule) same in
    let at = slice_get_read task.rules (length task.rules) counting.rule rule refl lt here in
    let own = subst (λ (o : Option Rule). IsSomeAnd o (IsOwnRule task counting.layer)) at c in
    record { at = at; fits = subst (FitsRule task) (sym here) (fits.each_rule counting.rule rule lt); counts = own.counts }

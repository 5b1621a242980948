-- The layers are closed one after the other.
use Rattle.std.proofs.Common.{◌≡◌, ℕ, zero, suc, ◌+◌, ◌-◌, ◌<◌, ◌≤◌, ◌⊎◌, inl, inr, List, [], length, get_or, Option, Some, None, IsSomeAnd, IfSome, slice_get, Contains, Any, refl, sym, ap, subst, ◌∙◌, arith}
use Rattle.std.specs.Prelude.{replicate}
use Rattle.std.specs.List.{All}
use Rattle.std.proofs.lemmas.Bool.{cases_eq, cases_lt}
use Rattle.std.proofs.lemmas.List.{get_or_default}
use Rattle.std.proofs.lemmas.Option.{get_or_from_slice_get, slice_get_within, slice_get_read}
use Rattle.symk_task.specs.declared.parts.Rule.{Rule}
use Rattle.symk_task.specs.declared.parts.TaskParts.{TaskParts}
use Rattle.symk_task.specs.Variables.{HasLayer}
use Rattle.symk_task.specs.Fits.{Fits, FitsRule}
use Rattle.task_run.specs.declared.counting.Counting.{Counting}
use Rattle.task_run.specs.Values.{Valued}
use Rattle.task_run.specs.Layer.{IsOwnRule, Grows, IsStuck, start_value}
use Rattle.task_run.specs.Counted.{IsCounting, AreRulesOf, IsLayer}
use Rattle.task_run.specs.Work.{StandsInList, AllPlaced, Placed, KeptRules, IsFresh}
use Rattle.task_run.specs.Work.Placed.{stacked, idle}
use Rattle.symk_task.proofs.Layers.{one_layer}
use Rattle.task_run.proofs.Layers.{Below, skip, layer_done, started, valued}
use Rattle.task_run.proofs.Bucketing.{counting_within}

-- The layers below a number are closed: those of the rules before the place. The rules from it on are for others.
pub record IsClosedTo (task : TaskParts) (s : List ℕ) (rules : List Counting) (at : ℕ) (values stack : List ℕ)
    (waiting : List (List ℕ)) (places : List ℕ) : Type 0 where
  pub layer : ℕ
  pub within : at ≤ length rules
  pub below : Below task s layer values
  pub fresh : IsFresh task layer places
  pub kept : KeptRules task stack waiting
  pub past : (k : ℕ) (d : Counting) → k < at → (get_or rules k d).layer < layer
  pub left : (k : ℕ) (d : Counting) → at ≤ k → k < length rules → layer ≤ (get_or rules k d).layer

same_all : {X : Type 0} (n i : ℕ) (a : X) → get_or (replicate n a) i a ≡ a
same_all zero i a = refl
same_all (suc n) zero a = refl
same_all (suc n) (suc i) a = same_all n i a

length_all : {X : Type 0} (n : ℕ) (a : X) → length (replicate n a) ≡ n
length_all zero a = refl
length_all (suc n) a = (let ih = length_all n a in omega (arith, ih))

-- before the first layer
pub none_closed : {task : TaskParts} {s : List ℕ} {rules : List Counting} {values stack : List ℕ}
    {waiting : List (List ℕ)} {places : List ℕ} → Fits task → length values ≡ length task.variables
    → ((var : ℕ) → var < length task.variables → get_or values var 0 ≡ start_value task.variables task.initial s var)
    → stack ≡ [] → waiting ≡ replicate (length task.variables) [] → places ≡ replicate (length task.rules) 0
    → IsClosedTo task s rules 0 values stack waiting places
none_closed {task} {s} {rules} {values} fits each start_values no_stack no_waiting no_places = record {
  layer = 0;
  within = omega arith;
  below = started task s values fits each start_values;
  fresh = record {
    each = ap (λ (z : List ℕ). length z) no_places ∙ length_all (length task.rules) 0;
    later = λ x rule at is own far. ap (λ (z : List ℕ). get_or z x 0) no_places ∙ same_all (length task.rules) x 0;
  };
  kept = record {
    each = ap (λ (z : List (List ℕ)). length z) no_waiting ∙ length_all (length task.variables) [];
    stacked = λ x h. absurd (subst (λ (z : List ℕ). StandsInList z x) no_stack h);
    waits = λ var x h. absurd (subst (λ (z : List ℕ). StandsInList z x)
        (ap (λ (z : List (List ℕ)). get_or z var []) no_waiting ∙ same_all (length task.variables) var []) h);
  };
  past = λ k d lt. absurd (omega arith);
  left = λ k d low lt. omega arith;
}

-- where a rule that counts stands in the list
record Found (rules : List Counting) (layer x : ℕ) : Type 0 where
  k : ℕ
  within : k < length rules
  at_layer : (d : Counting) → (get_or rules k d).layer ≡ layer
  at_rule : (d : Counting) → (get_or rules k d).rule ≡ x

found : (task : TaskParts) (rules : List Counting) (x : ℕ) (rule : Rule) (layer : ℕ) → AreRulesOf task rules
    → slice_get task.rules x ≡ Some rule → IsOwnRule task layer rule → Found rules layer x
found task rules x rule layer are at own =
    let it : Counting = record { layer = layer; rule = x } in
    let c = are.each it (subst (λ (z : Option Rule). IsSomeAnd z (IsOwnRule task layer)) (sym at) own) in
    record {
      k = c.0;
      within = c.1;
      at_layer = λ d. ap (λ (z : Counting). z.layer) (get_or_default rules c.0 d it c.1 ∙ c.2);
      at_rule = λ d. ap (λ (z : Counting). z.rule) (get_or_default rules c.0 d it c.1 ∙ c.2);
    }

number_of : (task : TaskParts) (rule : Rule) → (c : Contains task.rules rule) → slice_get task.rules c.0 ≡ Some rule
number_of task rule c = slice_get_read task.rules (length task.rules) c.0 rule refl c.1 (sym c.2)

-- What the closing of a layer asks for.
pub record IsReady (task : TaskParts) (s : List ℕ) (layer : ℕ) (values stack : List ℕ) (waiting : List (List ℕ)) (places : List ℕ) : Type 0 where
  pub below : Below task s layer values
  pub fresh : IsFresh task layer places
  pub kept : KeptRules task stack waiting
  pub placed : AllPlaced task layer values stack waiting

-- The rules of the layer stand from this place to the end.
pub record IsNext (rules : List Counting) (at end layer : ℕ) (c : Counting) : Type 0 where
  pub within : at < length rules
  pub here : (get_or rules at c).layer ≡ layer
  pub is_layer : IsLayer rules layer at end

pub begin_layer : {task : TaskParts} {s : List ℕ} {rules : List Counting} {at end layer : ℕ} {c : Counting}
    {values stack : List ℕ} (new : List ℕ) {waiting : List (List ℕ)} {places : List ℕ} → Fits task
    → AreRulesOf task rules → IsClosedTo task s rules at values stack waiting places → IsNext rules at end layer c
    → ((k : ℕ) (d : Counting) → at ≤ k → k < end → StandsInList new (get_or rules k d).rule)
    → ((x : ℕ) → StandsInList new x → StandsInList stack x ⊎ Any (λ (counting : Counting). counting.rule ≡ x) rules)
    → IsReady task s layer values new waiting places
begin_layer {task} {s} {rules} {at} {end} {layer} {c} {values} new {waiting} fits are i next stand only = record {
  below = subst (λ (z : ℕ). Below task s z values) (let e : (layer - i.layer) + i.layer ≡ layer = omega
      (arith, low) in e) (skip task s values (layer - i.layer) i.layer fits none i.below);
  fresh = record { each = i.fresh.each; later = λ x rule high at own far. i.fresh.later x rule high at own (λ k. far (omega (arith, k, low))) };
  kept = record { each = i.kept.each; stacked = in_rules; waits = i.kept.waits };
  placed = λ x rule at. go x rule at (fit_at x rule at);
}
  where
    low : i.layer ≤ layer
    low = (let k = i.left at c (omega arith) next.within in omega (arith, k, next.here))

    above : (k : ℕ) (d : Counting) → at ≤ k → k < length rules → layer ≤ (get_or rules k d).layer
    above k d le far = (let h = are.by_layer at k c le far in
        let e = ap (λ (z : Counting). z.layer) (get_or_default rules k c d far) in omega (arith, h, e, next.here))

    none : (rule : Rule) (high : ℕ) → Contains task.rules rule → IsOwnRule task high rule → i.layer ≤ high → high < (layer - i.layer) + i.layer → ⊥
    none rule high in_all own far near =
        let f = found task rules in_all.0 rule high are (number_of task rule in_all) own in
        let e = f.at_layer c in
        elim (cases_lt f.k at) [
          | inl before ↦ (let h = i.past f.k c before in omega (arith, h, e, far))
          | inr after ↦ (let h = above f.k c after f.within in omega (arith, h, e, near, low))
        ]

    in_rules : (x : ℕ) → StandsInList new x → x < length task.rules
    in_rules x h = elim (only x h) [
      | inl old ↦ i.kept.stacked x old
      | inr (k, counting, far, e, it) ↦ subst (λ (z : ℕ). z < length task.rules) it
          (counting_within task counting (subst (IsCounting task) e (are.counting k counting far)))
    ]

    fit_at : (x : ℕ) (rule : Rule) → slice_get task.rules x ≡ Some rule → FitsRule task rule
    fit_at x rule at = subst (FitsRule task) (get_or_from_slice_get task.rules x rule rule at) (fits.each_rule x rule (slice_get_within task.rules x rule at))

    stands : (x : ℕ) (rule : Rule) → slice_get task.rules x ≡ Some rule → IsOwnRule task layer rule → StandsInList new x
    stands x rule at2 own =
        let f = found task rules x rule layer are at2 own in
        let e = f.at_layer c in
        elim (cases_lt f.k at) [
          | inl before ↦ (let h = i.past f.k c before in absurd (omega (arith, h, e, low)))
          | inr after ↦ elim (cases_lt f.k end) [
            | inl inside ↦ subst (StandsInList new) (f.at_rule c) (stand f.k c after inside)
            | inr beyond ↦ (
                let within : end < length rules = (let w = f.within in omega (arith, w, beyond)) in
                let a = above end c next.is_layer.rising within in
                let b = are.by_layer end f.k c beyond f.within in
                absurd (next.is_layer.last within c (omega (arith, a, b, e))))
          ]
        ]

    go : (x : ℕ) (rule : Rule) → slice_get task.rules x ≡ Some rule → FitsRule task rule → Placed task layer values new waiting x rule
    go x rule at2 fit = elim (cases_eq rule.new (get_or task.initial rule.var 0)) [
      | inl e ↦ idle (λ o. o.own.counts e)
      | inr ne ↦ elim (cases_eq fit.layer layer) [
        | inl same ↦ stacked (stands x rule at2 (record { counts = ne; on = subst (HasLayer task rule.var) same fit.on }))
        | inr other ↦ idle (λ o. other (one_layer task rule.var fit.layer layer fit.on o.own.on))
      ]
    ]

pub end_layer : {task : TaskParts} {s : List ℕ} {rules : List Counting} {at end layer : ℕ} {c : Counting}
    {values next stack next_stack : List ℕ} {waiting next_waiting : List (List ℕ)} {places next_places : List ℕ}
    → Fits task → AreRulesOf task rules
    → IsClosedTo task s rules at values stack waiting places → Below task s layer values → IsNext rules at end layer c
    → Grows task layer values next → IsStuck task layer next → KeptRules task next_stack next_waiting
    → IsFresh task (layer + 1) next_places → IsClosedTo task s rules end next next_stack next_waiting
    next_places
end_layer {task} {s} {rules} {at} {end} {layer} {c} {values} {next} fits are i below n grows stuck kept fresh =
    let is = n.here in
    let l = n.is_layer in
    record {
      layer = layer + 1;
      within = l.within;
      below = subst (λ (z : ℕ). Below task s z next) (let e : suc layer ≡ layer + 1 = omega arith in e)
          (layer_done task s layer fits values next below grows stuck);
      fresh = fresh;
      kept = kept;
      past = λ k d near. elim (cases_lt k at) [
        | inl before ↦ (let h = i.past k d before in let h2 = i.left at c (omega arith) n.within in
            omega (arith, h, h2, is))
        | inr after ↦ (let h = l.same k d after near in omega (arith, h))
      ];
      left = λ k d far within. (
          let inside : end < length rules = omega (arith, far, within) in
          let up = l.rising in
          let a = are.by_layer at end c up inside in
          let b = are.by_layer end k c far within in
          let e = ap (λ (z : Counting). z.layer) (get_or_default rules k c d within) in
          let ne = l.last inside c in
          omega (arith, a, b, e, is, ne));
    }

-- after the last layer
pub all_closed : {task : TaskParts} {s : List ℕ} {rules : List Counting} {at : ℕ} {values stack : List ℕ}
    {waiting : List (List ℕ)} {places : List ℕ} → Fits task → AreRulesOf task rules
    → IsClosedTo task s rules at values stack waiting places → length rules ≤ at → Valued task s values
all_closed {task} {s} {rules} {at} {values} fits are i all =
    valued task s (65536 + i.layer) values fits most (skip task s values 65536 i.layer fits none i.below)
  where
    none : (rule : Rule) (high : ℕ) → Contains task.rules rule → IsOwnRule task high rule → i.layer ≤ high → high < 65536 + i.layer → ⊥
    none rule high in_all own far near =
        let f = found task rules in_all.0 rule high are (number_of task rule in_all) own in
        let c : Counting = record { layer = 0; rule = 0 } in
        let e = f.at_layer c in
        let w = f.within in
        let h = i.past f.k c (omega (arith, w, all)) in
        omega (arith, h, e, far)

    more : (o : Option ℕ) → IfSome o (λ layer. layer < 65536) → IfSome o (λ layer. layer < 65536 + i.layer)
    more None h = h
    more (Some layer) h = omega (arith, h)

    most : All (λ v. IfSome v.layer (λ layer. layer < 65536 + i.layer)) task.variables
    most k d lt = (let v = get_or task.variables k d in more v.layer (fits.each_variable k d lt).range.layer_most)

pub same_rules : (task parts : TaskParts) (rules counting : List Counting) → parts ≡ task → counting ≡ rules → AreRulesOf task rules → AreRulesOf parts counting
same_rules task parts rules counting e f are = subst (λ (z : List Counting). AreRulesOf parts z) (sym f)
    (subst (λ (z : TaskParts). AreRulesOf z rules) (sym e) are)

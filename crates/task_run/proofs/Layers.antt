-- What the values of the layers closed so far say.
use Rattle.std.proofs.Common.{◌≡◌, ℕ, zero, suc, ◌+◌, ◌-◌, ◌<◌, ◌≤◌, ◌⊎◌, ◌↔◌, inl, inr, true, false, cond, List, [], ◌∷◌, length, get_or, take, Option, Some, None, IsSomeAnd, IfSome, slice_get, Contains, refl, sym, ap, subst, ◌∙◌, arith}
use Rattle.std.proofs.Math.ListN.{set}
use Rattle.std.specs.List.{All, count_by}
use Rattle.std.specs.Option.{is_none}
use Rattle.std.proofs.lemmas.Bool.{cases_eq}
use Rattle.std.proofs.lemmas.List.{length-set, get_or-set_same, get_or-set_other}
use Rattle.std.proofs.lemmas.List.Elements.{recursion_from_All, All-from_recursion, All-contains, Contains-get_or}
use Rattle.std.proofs.lemmas.Option.{get_or_from_slice_get, slice_get_within}
use Rattle.symk_task.specs.declared.parts.Fact.{Fact}
use Rattle.symk_task.specs.declared.parts.Rule.{Rule}
use Rattle.symk_task.specs.declared.parts.Variable.{Variable}
use Rattle.symk_task.specs.declared.parts.TaskParts.{TaskParts}
use Rattle.symk_task.specs.Variables.{IsBase, HasLayer, is_base, place, other_value}
use Rattle.symk_task.specs.Derived.{HasRule, Met, Derives, Raised, RaisedBelow}
use Rattle.symk_task.specs.Derived.Met.{base, same, raised, default}
use Rattle.symk_task.specs.Steps.{Holds}
use Rattle.symk_task.specs.Fits.{Fits, FitsRule, InRange, MayStand}
use Rattle.symk_task.proofs.Closing.{Closed, complete, sound}
use Rattle.symk_task.proofs.Layers.{base_derived, one_layer, Two, two_values, fact_two, which, down, below_up, below_down, raised_layer}
use Rattle.task_run.specs.Values.{HasValue, Valued}
use Rattle.symk_task.proofs.Places.{within_some}
use Rattle.task_run.specs.Layer.{IsOwnRule, Raises, Grows, IsStuck, start_value}
use Rattle.task_run.specs.Layer.Grows.{done, by}

-- Layers below the number have their values; the others have the default values.
pub record Below (task : TaskParts) (s : List ℕ) (layer : ℕ) (values : List ℕ) : Type 0 where
  pub each : length values ≡ length task.variables
  pub base : (var : ℕ) → IsBase task var → get_or values var 0 ≡ get_or s (place task var) 0
  pub two : (var at : ℕ) → HasLayer task var at → get_or values var 0 < 2
  pub low : (var at : ℕ) → HasLayer task var at → at < layer → (get_or values var 0 ≡ other_value task var) ↔ RaisedBelow layer task s var
  pub high : (var at : ℕ) → HasLayer task var at → layer ≤ at → get_or values var 0 ≡ get_or task.initial var 0

-- The same amid a layer, where these rules of it were used.
record Amid (task : TaskParts) (s : List ℕ) (layer : ℕ) (values : List ℕ) (fired : List Rule) : Type 0 where
  each : length values ≡ length task.variables
  base : (var : ℕ) → IsBase task var → get_or values var 0 ≡ get_or s (place task var) 0
  two : (var at : ℕ) → HasLayer task var at → get_or values var 0 < 2
  low : (var at : ℕ) → HasLayer task var at → at < layer → (get_or values var 0 ≡ other_value task var) ↔ RaisedBelow layer task s var
  own : (var : ℕ) → HasLayer task var layer → (get_or values var 0 ≡ other_value task var) ↔ HasRule var fired
  high : (var at : ℕ) → HasLayer task var at → layer < at → get_or values var 0 ≡ get_or task.initial var 0
  derives : Derives task s (RaisedBelow layer task s) layer fired

begin : (task : TaskParts) (s : List ℕ) (layer : ℕ) (values : List ℕ) → Fits task → Below task s layer values → Amid task s layer values []
begin task s layer values fits b = record {
  each = b.each;
  base = b.base;
  two = b.two;
  low = b.low;
  own = λ var h. (
    (λ e. let t = two_values task var layer fits h in let k = b.high var layer h (omega arith) in omega (arith, e, k, t.initial)),
    (λ h. absurd h),
  );
  high = λ var at h lt. b.high var at h (omega arith);
  derives = tt;
}

module _ (task : TaskParts) (s : List ℕ) (layer : ℕ) (fits : Fits task) where
  -- a condition that may stand has its value exactly where it is met
  met : (values : List ℕ) (fired : List Rule) (fact : Fact) → Amid task s layer values fired
      → InRange task.variables fact → MayStand task layer fact → HasValue values fact
      ↔ Met task s (RaisedBelow layer task s) layer fired fact
  met values fired fact a within (inl b) = ((λ e. base b (sym (a.base fact.var b) ∙ e)), back)
    where
      back : Met task s (RaisedBelow layer task s) layer fired fact → HasValue values fact
      back (base b2 e) = a.base fact.var b ∙ e
      back (same l e h) = absurd (base_derived task fact.var layer b l)
      back (raised below l lt e h) = absurd (base_derived task fact.var below b l)
      back (default below l lt e h) = absurd (base_derived task fact.var below b l)
  met values fired fact a within (inr (at, l, inl lt)) = (to, back)
    where
      val : fact.val < 2
      val = fact_two task fact at fits within l

      t : Two task fact.var at
      t = two_values task fact.var at fits l

      low : (get_or values fact.var 0 ≡ other_value task fact.var) ↔ RaisedBelow layer task s fact.var
      low = a.low fact.var at l lt

      to : HasValue values fact → Met task s (RaisedBelow layer task s) layer fired fact
      to e = elim (cases_eq fact.val (other_value task fact.var)) [
        | inl k ↦ raised at l lt k (low.0 (e ∙ k))
        | inr ne ↦ default at l lt (let ne2 : fact.val ≡ 1 - get_or task.initial fact.var 0 → ⊥ = ne in omega
            (arith, val, t.initial, ne2)) (λ h. ne (sym e ∙ low.1 h))
      ]

      back : Met task s (RaisedBelow layer task s) layer fired fact → HasValue values fact
      back (base b e) = absurd (base_derived task fact.var at b l)
      back (same l2 e h) = (let k = one_layer task fact.var at layer l l2 in absurd (omega (arith, k, lt)))
      back (raised below l2 lt2 e h) = low.1 h ∙ sym e
      back (default below l2 lt2 e h) = elim (cases_eq (get_or values fact.var 0) (other_value task fact.var)) [
        | inl k ↦ absurd (h (low.0 k))
        | inr ne ↦ (let ne2 : get_or values fact.var 0 ≡ 1 - get_or task.initial fact.var 0 → ⊥ = ne in
            let two = a.two fact.var at l in omega (arith, two, t.initial, e, ne2))
      ]
  met values fired fact a within (inr (at, l, inr (is, other))) = (to, back)
    where
      on : HasLayer task fact.var layer
      on = subst (λ (z : ℕ). HasLayer task fact.var z) is l

      to : HasValue values fact → Met task s (RaisedBelow layer task s) layer fired fact
      to e = same on other ((a.own fact.var on).0 (e ∙ other))

      back : Met task s (RaisedBelow layer task s) layer fired fact → HasValue values fact
      back (base b e) = absurd (base_derived task fact.var at b l)
      back (same l2 e h) = (a.own fact.var on).1 h ∙ sym e
      back (raised below l2 lt2 e h) = (let k = one_layer task fact.var layer below on l2 in absurd (omega (arith, k, lt2)))
      back (default below l2 lt2 e h) = (let k = one_layer task fact.var layer below on l2 in absurd (omega (arith, k, lt2)))

  -- a rule that raises its variable counts
  pub counts : (values : List ℕ) (rule : Rule) → FitsRule task rule → HasLayer task rule.var layer
      → (rule.new ≡ get_or task.initial rule.var 0 → ⊥) → rule.new ≡ other_value task rule.var
  counts values rule fit on ne = (let t = two_values task rule.var layer fits on in let new = fit.new in omega (arith, new, t.initial, ne))

  pub may : (rule : Rule) → FitsRule task rule → HasLayer task rule.var layer → rule.new ≡ other_value task rule.var → All (MayStand task layer) rule.conds
  may rule fit on new = subst (λ (z : ℕ). All (MayStand task z) rule.conds) (one_layer task rule.var fit.layer layer fit.on on) (fit.kept new)

  fire : (values : List ℕ) (fired : List Rule) (rule : Rule) → Amid task s layer values fired
      → Contains task.rules rule → Raises task layer values rule
      → Amid task s layer (set values rule.var rule.new) (rule ∷ fired)
  fire values fired rule a in_rules r = record {
    each = length-set values rule.var rule.new ∙ a.each;
    base = λ var b. get_or-set_other values rule.var var rule.new 0
        (λ e. base_derived task var layer b (subst (λ (z : ℕ). HasLayer task z layer) (sym e) r.opened.own.on))
        ∙ a.base var b;
    two = λ var at l. elim (cases_eq var rule.var) [
      | inl e ↦ (let n = fit.new in let g = get_or-set_same values rule.var rule.new 0 within in rw e (omega (arith, n, g)))
      | inr ne ↦ (let g = get_or-set_other values rule.var var rule.new 0 ne in let k = a.two var at l in omega (arith, g, k))
    ];
    low = λ var at l lt. (
        let g = get_or-set_other values rule.var var rule.new 0
        (λ e. let k = one_layer task var at layer l (subst (λ (z : ℕ). HasLayer task z layer) (sym e) r.opened.own.on) in omega (arith, k, lt)) in
        let k = a.low var at l lt in ((λ e. k.0 (sym g ∙ e)), (λ h. g ∙ k.1 h)));
    own = λ var l. elim (cases_eq var rule.var) [
      | inl e ↦ ((λ _. inl (sym e)), (λ _. rw e (get_or-set_same values rule.var rule.new 0 within ∙ new)))
      | inr ne ↦ (
          let g = get_or-set_other values rule.var var rule.new 0 ne in
          let k = a.own var l in ((λ e. inr (k.0 (sym g ∙ e))), later var ne g k))
    ];
    high = λ var at l lt. (
        let g = get_or-set_other values rule.var var rule.new 0
        (λ e. let k = one_layer task var at layer l (subst (λ (z : ℕ). HasLayer task z layer) (sym e) r.opened.own.on) in omega (arith, k, lt)) in
        g ∙ a.high var at l lt);
    derives = (
      (in_rules, new),
      r.opened.own.on,
      recursion_from_All (Met task s (RaisedBelow layer task s) layer fired) rule.conds
          (λ k d lt. (met values fired (get_or rule.conds k d) a (fit.conds.1 k d lt)
          (may rule fit r.opened.own.on new k d lt)).0 (r.conds k d lt)),
      a.derives,
    );
  }
    where
      fit : FitsRule task rule
      fit = All-contains (FitsRule task) task.rules rule fits.each_rule in_rules

      within : rule.var < length values
      within = (let k = within_some (λ v. v.layer ≡ Some layer) task.variables rule.var r.opened.own.on in omega (arith, k, a.each))

      new : rule.new ≡ other_value task rule.var
      new = counts values rule fit r.opened.own.on r.opened.own.counts

      later : (var : ℕ) → (var ≡ rule.var → ⊥) → get_or (set values rule.var rule.new) var 0 ≡ get_or values var 0
          → ((get_or values var 0 ≡ other_value task var) ↔ HasRule var fired) → HasRule var (rule ∷ fired)
          → get_or (set values rule.var rule.new) var 0 ≡ other_value task var
      later var ne g k (inl e) = absurd (ne (sym e))
      later var ne g k (inr h) = g ∙ k.1 h

  grown : (old values : List ℕ) → Amid task s layer old [] → Grows task layer old values → (fired : List Rule) × Amid task s layer values fired
  grown old values a (done v) = ([], a)
  grown old values a (by v more rule g in_rules r) = (let k = grown old more a g in (rule ∷ k.0, fire more k.0 rule k.1 in_rules r))

  closed : (values : List ℕ) (fired : List Rule) → Amid task s layer values fired → IsStuck task layer values
      → Closed task s (RaisedBelow layer task s) layer fired
  closed values fired a stuck = record {
    closed = λ rule c on met_all. elim (cases_eq (get_or values rule.var 0) (other_value task rule.var)) [
      | inl e ↦ (a.own rule.var on).0 e
      | inr ne ↦ (
          let t = two_values task rule.var layer fits on in
          let fit = All-contains (FitsRule task) task.rules rule fits.each_rule c.0 in
          let ne2 : get_or values rule.var 0 ≡ 1 - get_or task.initial rule.var 0 → ⊥ = ne in
          let two = a.two rule.var layer on in
          let each = All-from_recursion (Met task s (RaisedBelow layer task s) layer fired) rule.conds met_all in
          absurd (All-contains (λ rule. Raises task layer values rule → ⊥) task.rules rule stuck c.0 (record {
            opened = record {
              own = record { counts = (λ e. let n : rule.new ≡ 1 - get_or task.initial rule.var 0 = c.1 in omega (arith, n, e, t.initial)); on = on };
              unraised = omega (arith, two, t.initial, ne2);
            };
            conds = λ k d lt. (met values fired (get_or rule.conds k d) a (fit.conds.1 k d lt) (may rule fit on c.1 k d lt)).1 (each k d lt);
          })))
    ];
  }

  -- the layer is done
  pub layer_done : (old values : List ℕ) → Below task s layer old → Grows task layer old values → IsStuck task layer values → Below task s (suc layer) values
  unfolding RaisedBelow
  layer_done old values b g stuck =
      let k = grown old values (begin task s layer old fits b) g in
      let a = k.1 in
      let c = closed values k.0 a stuck in
      record {
        each = a.each;
        base = a.base;
        two = a.two;
        low = λ var at l lt. elim (cases_eq at layer) [
          | inl e ↦ (
              let on : HasLayer task var layer = subst (λ (z : ℕ). HasLayer task var z) e l in
              let own = a.own var on in (
                (λ is. let n = sound task s (RaisedBelow layer task s) layer k.0 a.derives var (own.0 is) in inl (n.last, n.earlier, n.on, n.derives)),
                own_back values k.0 a c var on,
              ))
          | inr ne ↦ (
              let lt2 : at < layer = (let ne2 : at ≡ layer → ⊥ = ne in omega (arith, ne2, lt)) in
              let low = a.low var at l lt2 in ((λ is. inr (low.0 is)), (λ h. low.1 (down task s layer var at l lt2 h))))
        ];
        high = λ var at l lt. a.high var at l (omega arith);
      }
    where
      own_back : (values : List ℕ) (fired : List Rule) → Amid task s layer values fired
          → Closed task s (RaisedBelow layer task s) layer fired → (var : ℕ) → HasLayer task var layer
          → RaisedBelow (suc layer) task s var → get_or values var 0 ≡ other_value task var
      own_back values fired a c var on (inl h) = (a.own var on).1 (complete task s (RaisedBelow layer task s) layer fired (h.0 ∷ h.1) c h.3 var (inl h.2))
      own_back values fired a c var on (inr h) = (let r = raised_layer layer task s var h in
          let e = one_layer task var layer r.0 on r.1 in absurd (omega (arith, e, r.2)))

-- layers that no rule is for
pub skip : (task : TaskParts) (s values : List ℕ) (k n : ℕ) → Fits task
    → ((rule : Rule) (at : ℕ) → Contains task.rules rule → IsOwnRule task at rule → n ≤ at → at < k + n → ⊥)
    → Below task s n values → Below task s (k + n) values
skip task s values zero n fits none b = subst (λ (z : ℕ). Below task s z values) (let e : n ≡ 0 + n = omega arith in e) b
skip task s values (suc k) n fits none b =
    let ih = skip task s values k n fits (λ rule at in_rules own low lt. none rule at in_rules own low (omega arith)) b in
    subst (λ (z : ℕ). Below task s z values) (let e : suc (k + n) ≡ suc k + n = omega arith in e)
    (layer_done task s (k + n) fits values values ih (done values)
    (λ i d lt raises. none (get_or task.rules i d) (k + n) (Contains-get_or task.rules i d lt) raises.opened.own
    (omega arith) (omega arith)))

-- before any layer
start_base : (variables : List Variable) (defaults s : List ℕ) (var : ℕ)
    → IsSomeAnd (slice_get variables var) (λ v. v.layer ≡ None)
    → start_value variables defaults s var ≡ get_or s (count_by is_base (take var variables)) 0
start_base variables defaults s var h = go (slice_get variables var) h
  where
    go : (o : Option Variable) → IsSomeAnd o (λ v. v.layer ≡ None)
        → cond (Rattle.std.specs.Option.option_map_or is_base o false)
        (get_or s (count_by is_base (take var variables)) 0) (get_or defaults var 0) ≡ get_or s
        (count_by is_base (take var variables)) 0
    go None h = absurd h
    go (Some v) h = (let b : is_base v ≡ true = ap (λ (z : Option ℕ). is_none z) h in rw b refl)

start_derived : (variables : List Variable) (defaults s : List ℕ) (var layer : ℕ)
    → IsSomeAnd (slice_get variables var) (λ v. v.layer ≡ Some layer)
    → start_value variables defaults s var ≡ get_or defaults var 0
start_derived variables defaults s var layer h = go (slice_get variables var) h
  where
    go : (o : Option Variable) → IsSomeAnd o (λ v. v.layer ≡ Some layer)
        → cond (Rattle.std.specs.Option.option_map_or is_base o false)
        (get_or s (count_by is_base (take var variables)) 0) (get_or defaults var 0) ≡ get_or defaults var 0
    go None h = absurd h
    go (Some v) h = (let b : is_base v ≡ false = ap (λ (z : Option ℕ). is_none z) h in rw b refl)

pub started : (task : TaskParts) (s values : List ℕ) → Fits task → length values ≡ length task.variables
    → ((var : ℕ) → var < length task.variables → get_or values var 0 ≡ start_value task.variables task.initial s
    var) → Below task s 0 values
started task s values fits each h = record {
  each = each;
  base = λ var b. h var (within_some (λ v. v.layer ≡ None) task.variables var b) ∙ start_base task.variables task.initial s var b;
  two = λ var at l. (
      let t = two_values task var at fits l in
      let k = h var t.within ∙ start_derived task.variables task.initial s var at l in
      omega (arith, k, t.initial));
  low = λ var at l lt. absurd (omega arith);
  high = λ var at l lt. h var (within_some (λ v. v.layer ≡ Some at) task.variables var l) ∙ start_derived task.variables task.initial s var at l;
}

-- after all layers
layer_within : (task : TaskParts) (n var at : ℕ) → All (λ v. IfSome v.layer (λ layer. layer < n)) task.variables → HasLayer task var at → at < n
layer_within task n var at most h = go (slice_get task.variables var) refl h
  where
    go : (o : Option Variable) → slice_get task.variables var ≡ o → IsSomeAnd o (λ v. v.layer ≡ Some at) → at < n
    go None e h = absurd h
    go (Some v) e h =
        let k = most var v (slice_get_within task.variables var v e) in
        let k2 = subst (λ (z : Variable). IfSome z.layer (λ layer. layer < n)) (get_or_from_slice_get task.variables var v v e) k in
        subst (λ (z : Option ℕ). IfSome z (λ layer. layer < n)) h k2

pub valued : (task : TaskParts) (s : List ℕ) (n : ℕ) (values : List ℕ) → Fits task
    → All (λ v. IfSome v.layer (λ layer. layer < n)) task.variables → Below task s n values → Valued task s values
valued task s n values fits most b = record { each = b.each; holds = λ fact within. go fact within (which task fact within) }
  where
    go : (fact : Fact) → InRange task.variables fact → IsBase task fact.var
        ⊎ ((layer : ℕ) × HasLayer task fact.var layer) → Holds task s fact ↔ HasValue values fact
    go fact within (inl h) = (to, (λ e. inl (h, sym (b.base fact.var h) ∙ e)))
      where
        to : Holds task s fact → HasValue values fact
        to (inl k) = b.base fact.var h ∙ k.1
        to (inr k) = absurd (base_derived task fact.var k.0 h k.1)
    go fact within (inr (layer, on)) = (to, back)
      where
        lt : layer < n
        lt = layer_within task n fact.var layer most on

        far : ℕ
        far = n - (layer + 1)

        low : (get_or values fact.var 0 ≡ other_value task fact.var) ↔ RaisedBelow n task s fact.var
        low = b.low fact.var layer on lt

        into : RaisedBelow n task s fact.var → Raised task s fact.var
        into h = (
          layer,
          on,
          below_down task s (n - (layer + 1)) (layer + 1) fact.var layer on (omega arith)
              (subst (λ (z : ℕ). RaisedBelow z task s fact.var)
              (let e : n ≡ (n - (layer + 1)) + (layer + 1) = omega (arith, lt) in e) h),
        )

        from : Raised task s fact.var → RaisedBelow n task s fact.var
        from h =
            let e = one_layer task fact.var layer h.0 on h.1 in
            subst (λ (z : ℕ). RaisedBelow z task s fact.var)
            (let k : (n - (h.0 + 1)) + (h.0 + 1) ≡ n = omega (arith, lt, e) in k)
            (below_up task s (n - (h.0 + 1)) (h.0 + 1) fact.var h.2)

        val : fact.val < 2
        val = fact_two task fact layer fits within on

        two : get_or values fact.var 0 < 2
        two = b.two fact.var layer on

        t : Two task fact.var layer
        t = two_values task fact.var layer fits on

        to : Holds task s fact → HasValue values fact
        to (inl k) = absurd (base_derived task fact.var layer k.0 on)
        to (inr k) = elim (cases_eq fact.val (other_value task fact.var)) [
          | inl e ↦ low.1 (from (k.2.0 e)) ∙ sym e
          | inr ne ↦ elim (cases_eq (get_or values fact.var 0) (other_value task fact.var)) [
            | inl e2 ↦ absurd (ne (k.2.1 (into (low.0 e2))))
            | inr ne2 ↦ (
                let a : fact.val ≡ 1 - get_or task.initial fact.var 0 → ⊥ = ne in
                let c : get_or values fact.var 0 ≡ 1 - get_or task.initial fact.var 0 → ⊥ = ne2 in
                omega (arith, a, c, val, two, t.initial))
          ]
        ]

        back : HasValue values fact → Holds task s fact
        back e = inr (layer, on, ((λ k. into (low.0 (e ∙ k))), (λ r. sym e ∙ low.1 (from r))))

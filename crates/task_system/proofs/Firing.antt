-- The rules that fire in a layer derive what is derived there, and so the raised variables are found layer by layer.
use Rattle.std.proofs.Common.{◌≡◌, ℕ, zero, suc, ◌+◌, ◌<◌, ◌≤◌, ◌⊎◌, inl, inr, Bool, true, false, cond, ◌||◌, ◌==◌, nat_lt, slice_index, List, [], ◌∷◌, length, get_or, Option, Some, None, IsSomeAnd, slice_get, refl, sym, ap, subst, ◌∙◌, arith}
use Rattle.std.specs.Bool.{Decides}
use Rattle.std.specs.Option.{option_map}
use Rattle.std.specs.List.{AllByRecursion, Contains, find, cons_option}
use Rattle.std.proofs.lemmas.Bool.{and_parts, and_from, not-true, not_from_false, eqb-true, eq-eqb, or_cases, or_left, or_right, false≢true, ltb-true, lt-ltb}
use Rattle.std.proofs.lemmas.Bool.Decides.{Decides-eqb, Decides-and, Decides-or}
use Rattle.symk_task.specs.declared.parts.Fact.{Fact}
use Rattle.symk_task.specs.declared.parts.Variable.{Variable}
use Rattle.symk_task.specs.declared.parts.Rule.{Rule}
use Rattle.symk_task.specs.declared.parts.TaskParts.{TaskParts}
use Rattle.symk_task.specs.Variables.{IsBase, HasLayer, place, other_value}
use Rattle.symk_task.specs.Derived.{Counts, HasRule, Met, Derives, RaisedBelow}
use Rattle.symk_task.specs.Derived.Met.{base, same, raised, default}
use Rattle.symk_task.proofs.Closing.{Closed, complete, sound}
use Rattle.task_system.specs.Computed.{layer_at, is_at, has_rule, meets, meets_all, derives_more, fired_rules, raised_below}

has_rule_decides : (var : ℕ) (rules : List Rule) → Decides (has_rule var rules) (HasRule var rules)
has_rule_decides var [] = ((λ e. absurd (false≢true e)), (λ h. absurd h))
has_rule_decides var (rule ∷ rules) = Decides-or (rule.var == var) (has_rule var rules) (Decides-eqb rule.var var) (has_rule_decides var rules)

-- What a variable is, by its layer.

pub base_layer : (task : TaskParts) (var : ℕ) → IsBase task var → layer_at task var ≡ Some None
base_layer task var h = go (slice_get task.variables var) h
  where
    go : (o : Option Variable) → IsSomeAnd o (λ v. v.layer ≡ None) → option_map (λ (v : Variable). v.layer) o ≡ Some None
    go None h = absurd h
    go (Some v) h = ap (λ (z : Option ℕ). Some z) h

pub layer_base : (task : TaskParts) (var : ℕ) → layer_at task var ≡ Some None → IsBase task var
layer_base task var h = go (slice_get task.variables var) h
  where
    go : (o : Option Variable) → option_map (λ (v : Variable). v.layer) o ≡ Some None → IsSomeAnd o (λ v. v.layer ≡ None)
    go None h = cc
    go (Some v) h = cc

pub derived_layer : (task : TaskParts) (var layer : ℕ) → HasLayer task var layer → layer_at task var ≡ Some (Some layer)
derived_layer task var layer h = go (slice_get task.variables var) h
  where
    go : (o : Option Variable) → IsSomeAnd o (λ v. v.layer ≡ Some layer) → option_map (λ (v : Variable). v.layer) o ≡ Some (Some layer)
    go None h = absurd h
    go (Some v) h = ap (λ (z : Option ℕ). Some z) h

pub layer_derived : (task : TaskParts) (var layer : ℕ) → layer_at task var ≡ Some (Some layer) → HasLayer task var layer
layer_derived task var layer h = go (slice_get task.variables var) h
  where
    go : (o : Option Variable) → option_map (λ (v : Variable). v.layer) o ≡ Some (Some layer) → IsSomeAnd o (λ v. v.layer ≡ Some layer)
    go None h = cc
    go (Some v) h = cc

is_at_decides : (task : TaskParts) (layer var : ℕ) → Decides (is_at layer (layer_at task var)) (HasLayer task var layer)
is_at_decides task layer var = go (layer_at task var) refl
  where
    go : (o : Option (Option ℕ)) → layer_at task var ≡ o → Decides (is_at layer o) (HasLayer task var layer)
    go None is = ((λ e. absurd (false≢true e)), (λ h. let e = derived_layer task var layer h in cc))
    go (Some None) is = ((λ e. absurd (false≢true e)), (λ h. let e = derived_layer task var layer h in cc))
    go (Some (Some other)) is = (
      (λ e. layer_derived task var layer (let k : other ≡ layer = eqb-true other layer e in cc)),
      (λ h. let e = derived_layer task var layer h in let k : other ≡ layer = cc in eq-eqb other layer k),
    )

-- The conditions of a rule.

-- the test of a condition decides whether it is met
meets_decides : (task : TaskParts) (s : List ℕ) (low : ℕ → Bool) (Low : ℕ → Type 0) (layer : ℕ) (earlier : List Rule)
    (fact : Fact) → ((var : ℕ) → Decides (low var) (Low var))
    → Decides (meets task s low layer earlier fact (layer_at task fact.var)) (Met task s Low layer earlier fact)
meets_decides task s low Low layer earlier fact lows = go (layer_at task fact.var) refl
  where
    go : (o : Option (Option ℕ)) → layer_at task fact.var ≡ o → Decides (meets task s low layer earlier fact o) (Met task s Low layer earlier fact)
    go None is = ((λ e. absurd (false≢true e)), out)
      where
        out : Met task s Low layer earlier fact → false ≡ true
        out (base b e) = (let k = base_layer task fact.var b in cc)
        out (same l e h) = (let k = derived_layer task fact.var layer l in cc)
        out (raised below l lt e h) = (let k = derived_layer task fact.var below l in cc)
        out (default below l lt e h) = (let k = derived_layer task fact.var below l in cc)
    go (Some None) is = ((λ e. base (layer_base task fact.var is) (eqb-true _ _ e)), out)
      where
        out : Met task s Low layer earlier fact → (slice_index s (place task fact.var) == fact.val) ≡ true
        out (base b e) = eq-eqb _ _ e
        out (same l e h) = (let k = derived_layer task fact.var layer l in cc)
        out (raised below l lt e h) = (let k = derived_layer task fact.var below l in cc)
        out (default below l lt e h) = (let k = derived_layer task fact.var below l in cc)
    go (Some (Some at)) is = (into, out)
      where
        by_low : (r : Bool) → low fact.var ≡ r → at < layer → (fact.val == cond r (other_value task fact.var)
            (slice_index task.initial fact.var)) ≡ true → Met task s Low layer earlier fact
        by_low true t lt e = raised at (layer_derived task fact.var at is) lt (eqb-true _ _ e) ((lows fact.var).0 t)
        by_low false t lt e = default at (layer_derived task fact.var at is) lt (eqb-true _ _ e) (λ h. false≢true (sym t ∙ (lows fact.var).1 h))

        into : meets task s low layer earlier fact (Some (Some at)) ≡ true → Met task s Low layer earlier fact
        into e = elim (or_cases _ _ e) [
          | inl h ↦ (
              let p = and_parts _ _ h in
              let q = and_parts _ _ p.1 in
              let k : at ≡ layer = eqb-true at layer p.0 in
              same (layer_derived task fact.var layer (is ∙ ap (λ (z : ℕ). Some (Some z)) k)) (eqb-true _ _ q.0) ((has_rule_decides fact.var earlier).0 q.1))
          | inr h ↦ (let p = and_parts _ _ h in by_low (low fact.var) refl (ltb-true at layer p.0) p.1)
        ]

        not_low : (r : Bool) → low fact.var ≡ r → ¬ Low fact.var → low fact.var ≡ false
        not_low true t h = absurd (h ((lows fact.var).0 t))
        not_low false t h = t

        lower : (below : ℕ) → HasLayer task fact.var below → below < layer → nat_lt at layer ≡ true
        lower below l lt = (let k = derived_layer task fact.var below l in let j : at ≡ below = cc in lt-ltb at layer (rw j lt))

        out : Met task s Low layer earlier fact → meets task s low layer earlier fact (Some (Some at)) ≡ true
        out (base b e) = (let k = base_layer task fact.var b in cc)
        out (same l e h) =
            let k = derived_layer task fact.var layer l in
            let j : at ≡ layer = cc in
            or_left _ _ (and_from _ _ (eq-eqb at layer j) (and_from _ _ (eq-eqb _ _ e) ((has_rule_decides fact.var earlier).1 h)))
        out (raised below l lt e h) = or_right _ _ (and_from _ _ (lower below l lt) (rw ((lows fact.var).1 h) (eq-eqb _ _ e)))
        out (default below l lt e h) = or_right _ _ (and_from _ _ (lower below l lt) (rw (not_low (low fact.var) refl h) (eq-eqb _ _ e)))

meets_all_decides : (task : TaskParts) (s : List ℕ) (low : ℕ → Bool) (Low : ℕ → Type 0) (layer : ℕ)
    (earlier : List Rule) (facts : List Fact) → ((var : ℕ) → Decides (low var) (Low var))
    → Decides (meets_all task s low layer earlier facts) (AllByRecursion (Met task s Low layer earlier) facts)
meets_all_decides task s low Low layer earlier [] lows = ((λ e. tt), (λ h. refl))
meets_all_decides task s low Low layer earlier (fact ∷ facts) lows =
    Decides-and (meets task s low layer earlier fact (layer_at task fact.var))
    (meets_all task s low layer earlier facts) (meets_decides task s low Low layer earlier fact lows)
    (meets_all_decides task s low Low layer earlier facts lows)

-- The first rule that derives something new.

find_some : {X : Type 0} (p : X → Bool) (xs : List X) (x : X) → find p xs ≡ Some x → Contains xs x × (p x ≡ true)
find_some p [] x e = cc
find_some {X} p (y ∷ xs) x e = go (p y) refl e (find_some p xs x)
  where
    go : (b : Bool) → p y ≡ b → cond b (Some y) (find p xs) ≡ Some x → (find p xs ≡ Some x → Contains xs x × (p x ≡ true)) → Contains (y ∷ xs) x × (p x ≡ true)
    go true t h ih = (let same : y ≡ x = cc in ((0, omega arith, same), subst (λ (z : X). p z ≡ true) same t))
    go false t h ih = (let k = ih h in let i = k.0 in ((suc i.0, omega (arith, i.1), i.2), k.1))

find_none : {X : Type 0} (p : X → Bool) (xs : List X) → find p xs ≡ None → (x : X) (i : ℕ) → i < length xs → get_or xs i x ≡ x → p x ≡ false
find_none p [] e x i lt is = absurd (omega arith)
find_none {X} p (y ∷ xs) e x i lt is = go (p y) refl e i lt is (λ h. find_none p xs h x)
  where
    go : (b : Bool) → p y ≡ b → cond b (Some y) (find p xs) ≡ None → (i : ℕ) → i < suc (length xs)
        → get_or (y ∷ xs) i x ≡ x → (find p xs ≡ None → (i : ℕ) → i < length xs → get_or xs i x ≡ x → p x ≡ false)
        → p x ≡ false
    go true t h i lt is ih = cc
    go false t h zero lt is ih = subst (λ (z : X). p z ≡ false) is t
    go false t h (suc i) lt is ih = ih h i (omega arith) is

-- How many rules have a variable for which none fired: it falls with each rule that fires.

abbrev unfired : List Rule → List Rule → ℕ
unfired fired [] = 0
unfired fired (rule ∷ rules) = cond (has_rule rule.var fired) 0 1 + unfired fired rules

unfired_most : (rules : List Rule) (fired : List Rule) → unfired fired rules ≤ length rules
unfired_most [] fired = omega arith
unfired_most (rule ∷ rules) fired = go (has_rule rule.var fired) (unfired_most rules fired)
  where
    go : (b : Bool) → unfired fired rules ≤ length rules → cond b 0 1 + unfired fired rules ≤ suc (length rules)
    go true h = omega arith
    go false h = omega arith

unfired_step : (fired : List Rule) (rule : Rule) (v : ℕ) → cond (has_rule v (rule ∷ fired)) 0 1 ≤ cond (has_rule v fired) 0 1
unfired_step fired rule v = go (rule.var == v) (has_rule v fired)
  where
    go : (a b : Bool) → cond (a || b) 0 1 ≤ cond b 0 1
    go true true = omega arith
    go true false = omega arith
    go false b = omega arith

unfired_less : (fired rules : List Rule) (rule : Rule) → unfired (rule ∷ fired) rules ≤ unfired fired rules
unfired_less fired [] rule = omega arith
unfired_less fired (r ∷ rules) rule = omega (arith, unfired_less fired rules rule, unfired_step fired rule r.var)

unfired_falls : (fired rules : List Rule) (rule : Rule) (i : ℕ) → i < length rules → get_or rules i rule ≡ rule
    → has_rule rule.var fired ≡ false → unfired (rule ∷ fired) rules < unfired fired rules
unfired_falls fired [] rule i lt is new = absurd (omega arith)
unfired_falls fired (r ∷ rules) rule zero lt is new =
    let a : has_rule r.var fired ≡ false = ap (λ (z : Rule). has_rule z.var fired) is ∙ new in
    let b : has_rule r.var (rule ∷ fired) ≡ true = or_left _ _ (eq-eqb rule.var r.var (sym (ap (λ (z : Rule). z.var) is))) in
    rw (b, a) (omega (arith, unfired_less fired rules rule))
unfired_falls fired (r ∷ rules) rule (suc i) lt is new = omega (arith, unfired_step fired rule r.var, unfired_falls fired rules rule i (omega arith) is new)

all_fired : (fired rules : List Rule) → unfired fired rules ≡ 0 → (rule : Rule) (i : ℕ) → i < length rules
    → get_or rules i rule ≡ rule → has_rule rule.var fired ≡ true
all_fired fired [] e rule i lt is = absurd (omega arith)
all_fired fired (r ∷ rules) e rule i lt is = go (has_rule r.var fired) refl e (λ h. all_fired fired rules h rule) i lt is
  where
    go : (b : Bool) → has_rule r.var fired ≡ b → cond b 0 1 + unfired fired rules ≡ 0
        → (unfired fired rules ≡ 0 → (i : ℕ) → i < length rules → get_or rules i rule ≡ rule
        → has_rule rule.var fired ≡ true) → (i : ℕ) → i < suc (length rules) → get_or (r ∷ rules) i rule ≡ rule
        → has_rule rule.var fired ≡ true
    go true t h ih zero lt is = subst (λ (z : Rule). has_rule z.var fired ≡ true) is t
    go true t h ih (suc i) lt is = ih (omega arith) i (omega arith) is
    go false t h ih i lt is = absurd (omega arith)

module _ (task : TaskParts) (s : List ℕ) (low : ℕ → Bool) (Low : ℕ → Type 0) (lows : (var : ℕ) → Decides (low var) (Low var)) (layer : ℕ) where
  -- The rules that fired derive, and either nothing more does, or so many fewer rules are left.
  record Grown (most : ℕ) (fired : List Rule) : Type 0 where
    derives : Derives task s Low layer fired
    far : Closed task s Low layer fired ⊎ (unfired fired task.rules + most ≤ length task.rules)

  grown : (most : ℕ) → Grown most (fired_rules task s low layer most)
  unfolding fired_rules
  grown zero = record { derives = tt; far = inr (omega (arith, unfired_most task.rules [])) }
  grown (suc most) = go (find (derives_more task s low layer (fired_rules task s low layer most)) task.rules) refl (grown most)
    where
      go : (o : Option Rule) → find (derives_more task s low layer (fired_rules task s low layer most)) task.rules ≡ o
          → Grown most (fired_rules task s low layer most)
          → Grown (suc most) (cons_option o (fired_rules task s low layer most))
      go None e g = record {
        derives = g.derives;
        far = inl (record
            { closed = λ rule counts at met. closed rule counts at met (has_rule rule.var fired) refl });
      }
        where
          fired : List Rule
          fired = fired_rules task s low layer most

          closed : (rule : Rule) → Counts task rule → HasLayer task rule.var layer
              → AllByRecursion (Met task s Low layer fired) rule.conds → (b : Bool) → has_rule rule.var fired ≡ b
              → HasRule rule.var fired
          closed rule counts at met true t = (has_rule_decides rule.var fired).0 t
          closed rule counts at met false t =
              let c = counts.0 in
              let passes : derives_more task s low layer fired rule ≡ true =
              and_from _ _ (eq-eqb _ _ counts.1) (and_from _ _ ((is_at_decides task layer rule.var).1 at)
              (and_from _ _ (not_from_false _ t)
              ((meets_all_decides task s low Low layer fired rule.conds lows).1 met))) in
              let fails : derives_more task s low layer fired rule ≡ false = find_none (derives_more task s low layer fired) task.rules e rule c.0 c.1 c.2 in
              absurd (false≢true (sym fails ∙ passes))
      go (Some rule) e g =
          let fired = fired_rules task s low layer most in
          let f = find_some (derives_more task s low layer fired) task.rules rule e in
          let p = and_parts _ _ f.1 in
          let q = and_parts _ _ p.1 in
          let r = and_parts _ _ q.1 in
          let new : has_rule rule.var fired ≡ false = not-true _ r.0 in
          record {
            derives = (
              (f.0, eqb-true _ _ p.0),
              (is_at_decides task layer rule.var).0 q.0,
              (meets_all_decides task s low Low layer fired rule.conds lows).0 r.1,
              g.derives,
            );
            far = elim g.far [
              | inl c ↦ absurd (false≢true (sym new ∙ (has_rule_decides rule.var fired).1
                  (c.closed rule (f.0, eqb-true _ _ p.0) ((is_at_decides task layer rule.var).0 q.0)
                  ((meets_all_decides task s low Low layer fired rule.conds lows).0 r.1))))
              | inr h ↦ inr (omega (arith, h, unfired_falls fired task.rules rule f.0.0 f.0.1 f.0.2 new))
            ];
          }

  -- as many rules as the task has are enough
  fired_closed : Closed task s Low layer (fired_rules task s low layer (length task.rules))
  fired_closed = elim (grown (length task.rules)).far [
    | inl c ↦ c
    | inr h ↦ record {
      closed = λ rule counts at met. (has_rule_decides rule.var _).0
          (all_fired _ task.rules (omega (arith, h)) rule counts.0.0 counts.0.1 counts.0.2);
    }
  ]

  -- a rule for var fires exactly where a list of rules of the layer derives var
  pub fired_decides : (var : ℕ) → Decides (has_rule var (fired_rules task s low layer (length task.rules)))
      ((last : Rule) × (earlier : List Rule) × (last.var ≡ var) × Derives task s Low layer (last ∷ earlier))
  fired_decides var =
      let fired = fired_rules task s low layer (length task.rules) in
      let d = has_rule_decides var fired in (
        (λ e. let k = sound task s Low layer fired (grown (length task.rules)).derives var (d.0 e) in (k.last, k.earlier, k.on, k.derives)),
        (λ h. d.1 (complete task s Low layer fired (h.0 ∷ h.1) fired_closed h.3 var (inl h.2))),
      )

-- the variables below a layer that are raised are those that the function says
pub raised_decides : (layer : ℕ) (task : TaskParts) (s : List ℕ) (var : ℕ) → Decides (raised_below layer task s var) (RaisedBelow layer task s var)
unfolding raised_below RaisedBelow
raised_decides zero task s var = ((λ e. absurd (false≢true e)), (λ h. absurd h))
raised_decides (suc layer) task s var =
    Decides-or (has_rule var (fired_rules task s (raised_below layer task s) layer (length task.rules))) (raised_below layer task s var)
    (fired_decides task s (raised_below layer task s) (RaisedBelow layer task s) (raised_decides layer task s) layer var) (raised_decides layer task s var)

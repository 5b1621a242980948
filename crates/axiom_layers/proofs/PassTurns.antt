-- GrowsInPasses over the rules of a layer, seen in one state.
use Rattle.std.proofs.Common.{◌≡◌, ℕ, zero, suc, ◌+◌, ◌<◌, ◌≤◌, ◌⊎◌, inl, inr, Bool, true, false, cond, ◌==◌, List, [], ◌∷◌, length, get_or, Contains, Option, Some, IsSomeAnd, IfSome, slice_get, refl, sym, ap, subst, ◌∙◌, arith}
use Rattle.std.proofs.Math.ListN.{set}
use Rattle.std.proofs.lemmas.Bool.{cases_eq, eq-eqb}
use Rattle.std.proofs.lemmas.List.{get_or_default}
use Rattle.std.proofs.lemmas.List.Elements.{All-contains}
use Rattle.std.proofs.lemmas.Option.{get_or_from_slice_get, slice_get_within, slice_get-get_or}
use Rattle.symk_task.specs.declared.parts.Rule.{Rule}
use Rattle.symk_task.specs.declared.parts.TaskParts.{TaskParts}
use Rattle.symk_task.specs.Fits.{Fits}
use Rattle.symk_task.proofs.Places.{within_some}
use Rattle.task_run.specs.declared.counting.Counting.{Counting}
use Rattle.task_run.specs.Layer.{IsOwnRule, Raises, Grows, IsStuck, at_default}
use Rattle.task_run.specs.Layer.Grows.{done, by}
use Rattle.task_run.proofs.Growing.{at_default_falls, grows_on}
use Rattle.axiom_layers.specs.Raising.{RuleTurn, AreOfLayer, NoneRaises, PassTurn, GrowsInPasses, Closes}

-- the rule of a number in the list is one of the layer
own_there : (task : TaskParts) (layer n : ℕ) (rules : List Counting) (counting : Counting) (rule : Rule)
    → AreOfLayer task layer rules → n < length rules → counting ≡ get_or rules n counting
    → slice_get task.rules counting.rule ≡ Some rule → IsOwnRule task layer rule
own_there task layer n rules counting rule are lt is at =
    let own = subst (λ (x : Counting). IsSomeAnd (slice_get task.rules x.rule) (IsOwnRule task x.layer)) (sym is) (are.counting n counting lt) in
    let same : counting.layer ≡ layer = ap (λ (x : Counting). x.layer) is ∙ are.same n counting lt in
    subst (λ (z : ℕ). IsOwnRule task z rule) same (subst (λ (o : Option Rule). IsSomeAnd o (IsOwnRule task counting.layer)) at own)

-- the list has the number of the rule at the place
pub record IsRuleAt (task : TaskParts) (rules : List Counting) (n : ℕ) (rule : Rule) : Type 0 where
  pub counting : Counting
  pub within : n < length rules
  pub is : counting ≡ get_or rules n counting
  pub found : slice_get task.rules counting.rule ≡ Some rule

-- one rule more
pub turn_more : {task : TaskParts} {layer n : ℕ} {rules : List Counting} {rule : Rule} (old now next : List ℕ)
    → Fits task → length now ≡ length task.variables → AreOfLayer task layer rules → IsRuleAt task rules n rule
    → PassTurn task layer rules n old now → RuleTurn task rule now next → PassTurn task layer rules (n + 1) old next
turn_more {task} {layer} {n} {rules} {rule} old now next fits each are at (g, t) (inl (ready, e)) =
    let own = own_there task layer n rules at.counting rule are at.within at.is at.found in
    let within = within_some (λ v. v.layer ≡ Some layer) task.variables rule.var own.on in
    let falls : at_default task.initial (set now rule.var rule.new) < at_default task.initial now =
    at_default_falls task.initial now rule.var rule.new (omega (arith, within, each))
    (let i = fits.initial in omega (arith, within, i)) ready.unraised own.counts in
    let raises : Raises task layer now rule = record { opened = record { own = own; unraised = ready.unraised }; conds = ready.conds } in
    let in_rules : Contains task.rules rule = (
      at.counting.rule,
      slice_get_within task.rules at.counting.rule rule at.found,
      get_or_from_slice_get task.rules at.counting.rule rule rule at.found,
    ) in
    subst (λ (z : List ℕ). PassTurn task layer rules (n + 1) old z) (sym e) (by old now rule g in_rules raises, inl (less t falls))
  where
    less : (at_default task.initial now < at_default task.initial old)
        ⊎ ((now ≡ old) × NoneRaises task layer rules n old)
        → at_default task.initial (set now rule.var rule.new) < at_default task.initial now
        → at_default task.initial (set now rule.var rule.new) < at_default task.initial old
    less (inl f) falls = omega (arith, f, falls)
    less (inr (same, none)) falls = subst (λ (z : List ℕ). at_default task.initial (set now rule.var rule.new) < at_default task.initial z) same falls
turn_more {task} {layer} {n} {rules} {rule} old now next fits each are at (g, t) (inr (not_ready, e)) =
    subst (λ (z : List ℕ). PassTurn task layer rules (n + 1) old z) (sym e) (g, on t)
  where
    none_here : now ≡ old → (d : Counting) → IfSome (slice_get task.rules (get_or rules n d).rule) (λ rule. Raises task layer old rule → ⊥)
    none_here same d =
        let here : slice_get task.rules (get_or rules n d).rule ≡ Some rule =
        ap (λ (x : Counting). slice_get task.rules x.rule) (get_or_default rules n d at.counting at.within ∙ sym at.is)
        ∙ at.found in
        subst (λ (o : Option Rule). IfSome o (λ rule. Raises task layer old rule → ⊥)) (sym here)
        (λ r. not_ready (subst (λ (z : List ℕ). Rattle.axiom_layers.specs.Raising.IsReady task z rule) (sym same)
        (record { unraised = r.opened.unraised; conds = r.conds })))

    on : (at_default task.initial now < at_default task.initial old)
        ⊎ ((now ≡ old) × NoneRaises task layer rules n old)
        → (at_default task.initial now < at_default task.initial old)
        ⊎ ((now ≡ old) × NoneRaises task layer rules (n + 1) old)
    on (inl f) = inl f
    on (inr (same, none)) = inr (
      same,
      (λ k d below. elim (cases_eq k n) [
        | inl e ↦ subst (λ (z : ℕ). IfSome (slice_get task.rules (get_or rules z d).rule) (λ rule. Raises task layer old rule → ⊥)) (sym e) (none_here same d)
        | inr ne ↦ (let ne2 : k ≡ n → ⊥ = ne in none k d (omega (arith, ne2, below)))
      ]),
    )

-- where none of the rules raises anything, the layer is closed
none_stuck : (task : TaskParts) (layer : ℕ) (rules : List Counting) (values : List ℕ) → AreOfLayer task layer rules
    → NoneRaises task layer rules (length rules) values → IsStuck task layer values
none_stuck task layer rules values are none i d lt raises =
    let x : Counting = record { layer = layer; rule = i } in
    let here = slice_get-get_or task.rules i d lt in
    let c = are.each x (subst (λ (o : Option Rule). IsSomeAnd o (IsOwnRule task layer)) (sym here) raises.opened.own) refl in
    let no = none c.0 x c.1 in
    let no2 = subst (λ (y : Counting). IfSome (slice_get task.rules y.rule) (λ rule. Raises task layer values rule → ⊥)) c.2 no in
    let no3 = subst (λ (o : Option Rule). IfSome o (λ rule. Raises task layer values rule → ⊥)) here no2 in
    no3 raises

-- from a closed layer nothing grows
stuck_same : (task : TaskParts) (layer : ℕ) (old new : List ℕ) → Grows task layer old new → IsStuck task layer old → new ≡ old
stuck_same task layer old new (done v) stuck = refl
stuck_same task layer old new (by v more rule g in_rules r) stuck =
    let e = stuck_same task layer old more g stuck in
    absurd (All-contains (λ rule. Raises task layer old rule → ⊥) task.rules rule stuck in_rules (subst (λ (z : List ℕ). Raises task layer z rule) e r))

no_less : (n : ℕ) → n < n → ⊥
no_less n lt = omega (arith, lt)

-- no pass, and one more
pub passes_none : (task : TaskParts) (layer : ℕ) (now : List ℕ) → Fits task → GrowsInPasses task layer 0 now now
passes_none task layer now fits = (done now, inr (let k = most task.initial now in let i = fits.initial in omega (arith, k, i)))
  where
    most : (initial values : List ℕ) → at_default initial values ≤ length initial
    most [] values = omega arith
    most (x ∷ initial) [] = omega arith
    most (x ∷ initial) (y ∷ values) = one (y == x) (most initial values)
      where
        one : (t : Bool) → at_default initial values ≤ length initial → cond t 1 0 + at_default initial values ≤ suc (length initial)
        one true k = omega (arith, k)
        one false k = omega (arith, k)

pub passes_more : (task : TaskParts) (layer n : ℕ) (rules : List Counting) (old now next : List ℕ)
    → AreOfLayer task layer rules → GrowsInPasses task layer n old now → PassTurn task layer rules (length rules) now next
    → GrowsInPasses task layer (n + 1) old next
passes_more task layer n rules old now next are (g, t) (h, inr (same, none)) = (
  grows_on task layer old now next g h,
  inl (subst (λ (z : List ℕ). IsStuck task layer z) (sym same)
      (none_stuck task layer rules now are none)),
)
passes_more task layer n rules old now next are (g, inl stuck) (h, inl f) =
    (let e = stuck_same task layer now next h stuck in absurd
    (no_less (at_default task.initial now)
    (subst (λ (z : List ℕ). at_default task.initial z < at_default task.initial now) e f)))
passes_more task layer n rules old now next are (g, inr few) (h, inl f) = (grows_on task layer old now next g h, inr (omega (arith, few, f)))

-- no set changed
pub closes_early : (task : TaskParts) (layer n : ℕ) (rules : List Counting) (old now next : List ℕ)
    → AreOfLayer task layer rules → GrowsInPasses task layer n old now → PassTurn task layer rules (length rules) now next
    → next ≡ now → Closes task layer old next
closes_early task layer n rules old now next are (g, t) (h, inr (same, none)) e = (
  grows_on task layer old now next g h,
  subst (λ (z : List ℕ). IsStuck task layer z) (sym same)
      (none_stuck task layer rules now are none),
)
closes_early task layer n rules old now next are (g, t) (h, inl f) e =
    absurd (no_less (at_default task.initial now)
    (subst (λ (z : List ℕ). at_default task.initial z < at_default task.initial now) e f))

some_default : (initial values : List ℕ) (var : ℕ) → var < length values → var < length initial
    → get_or values var 0 ≡ get_or initial var 0 → 1 ≤ at_default initial values
some_default [] values var lt within e = absurd (omega arith)
some_default (x ∷ initial) [] var lt within e = absurd (omega arith)
some_default (x ∷ initial) (y ∷ values) zero lt within e = (let b : (y == x) ≡ true = eq-eqb y x e in rw b (omega arith))
some_default (x ∷ initial) (y ∷ values) (suc var) lt within e = omega (arith, some_default initial values var (omega arith) (omega arith) e)

-- as many passes as variables
pub closes_late : (task : TaskParts) (layer n : ℕ) (old now : List ℕ) → Fits task → length now ≡ length task.variables
    → length task.variables ≤ n → GrowsInPasses task layer n old now → Closes task layer old now
closes_late task layer n old now fits each all (g, inl stuck) = (g, stuck)
closes_late task layer n old now fits each all (g, inr few) = (
  g,
  (λ k d lt r.
      let rule = get_or task.rules k d in
      let within = within_some (λ v. v.layer ≡ Some layer) task.variables rule.var r.opened.own.on in
      let i = fits.initial in
      let some = some_default task.initial now rule.var (omega (arith, within, each)) (omega (arith, within, i)) r.opened.unraised in
      omega (arith, some, few, all)),
)

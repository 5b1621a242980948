-- Two operators in a state in which both apply: one after the other.
use Rattle.std.proofs.Common.{◌≡◌, ℕ, ◌<◌, ◌⊎◌, ◌↔◌, inl, inr, List, length, get_or, Option, Some, None, IsSomeAnd, IfSome, slice_get, refl, sym, ap, subst, ◌∙◌}
use Rattle.std.specs.List.{All}
use Rattle.std.proofs.lemmas.Bool.{cases_eq}
use Rattle.std.proofs.lemmas.List.Elements.{recursion_from_All}
use Rattle.symk_task.specs.declared.parts.Fact.{Fact}
use Rattle.symk_task.specs.declared.parts.Variable.{Variable}
use Rattle.symk_task.specs.declared.parts.Effect.{Effect}
use Rattle.symk_task.specs.declared.parts.Operator.{Operator}
use Rattle.symk_task.specs.declared.parts.TaskParts.{TaskParts}
use Rattle.symk_task.specs.Variables.{IsBase, HasLayer, IsState, place, range}
use Rattle.symk_task.specs.Steps.{Holds, Fires, Allows, ValueAfter}
use Rattle.symk_task.specs.Fits.{FitsOperator, InRange}
use Rattle.symk_task.proofs.Layers.{base_derived, which}
use Rattle.symk_task.proofs.OneState.{value_one}
use Rattle.task_run.proofs.Effects.{after_like}
use Rattle.stubborn_sets.specs.Reading.{ReadsBaseAlone, AllowsValue, AreLocal, Ignores, Untouched, value_after}
use Rattle.stubborn_sets.specs.Meeting.{MeetAt, MeetEach}
use Rattle.stubborn_sets.proofs.Agreeing.{Agree, RulesAgree, holds_to, holds_same}
use Rattle.stubborn_sets.proofs.Values.{Unwritten, unwritten, FiresAt, computed}

-- what the operator asks for holds
pub record Allowed (task : TaskParts) (s : List ℕ) (operator : Operator) : Type 0 where
  pub prevail : All (Holds task s) operator.prevail
  pub effects : All (Allows task s) operator.effects

-- it leads from one to the other
abbrev pub Leaves : TaskParts → List ℕ → Operator → List ℕ → Type 0
Leaves task s operator t = (var : ℕ) → IsBase task var → ValueAfter (Fires task s) operator.effects var
    (get_or s (place task var) 0) (get_or t (place task var) 0)

-- what holds of a base variable holds of its value
pub base_value : (task : TaskParts) (s : List ℕ) (fact : Fact) → IsBase task fact.var → Holds task s fact → get_or s (place task fact.var) 0 ≡ fact.val
base_value task s fact on (inl h) = h.1
base_value task s fact on (inr (layer, has, _)) = absurd (base_derived task fact.var layer on has)

-- an operator that applies allows the value that a variable has
allows_value : (task : TaskParts) (s : List ℕ) (operator : Operator) (var : ℕ) → IsBase task var
    → Allowed task s operator → AllowsValue operator var (get_or s (place task var) 0)
allows_value task s operator var on allowed = (
  (λ k d lt same.
      let fact = get_or operator.prevail k d in
      let here : IsBase task fact.var = subst (IsBase task) (sym same) on in
      sym (base_value task s fact here (allowed.prevail k d lt)) ∙ ap (λ (v : ℕ). get_or s (place task v) 0) same),
  (λ k d lt same. (let effect = get_or operator.effects k d in asked effect effect.pre same (allowed.effects k d lt))),
)
  where
    asked : (effect : Effect) (pre : Option ℕ) → effect.var ≡ var
        → IfSome pre (λ val. Holds task s (record { var = effect.var; val = val }))
        → IfSome pre (λ val. val ≡ get_or s (place task var) 0)
    asked effect None same h = tt
    asked effect (Some val) same h =
        let here : IsBase task effect.var = subst (IsBase task) (sym same) on in
        sym (base_value task s (record { var = effect.var; val = val }) here h) ∙ ap (λ (v : ℕ). get_or s (place task v) 0) same

-- what a variable has after effects on it that depend on its value alone
pub local_value : (task : TaskParts) (s : List ℕ) (effects : List Effect) (var new : ℕ) → IsBase task var
    → AreLocal var effects → ValueAfter (Fires task s) effects var (get_or s (place task var) 0) new
    → new ≡ value_after effects var (get_or s (place task var) 0)
local_value task s effects var new on local after =
    let val = get_or s (place task var) 0 in
    value_one (FiresAt val) effects var val new (value_after effects var val)
    (after_like (Fires task s) (FiresAt val) effects var val new
    (recursion_from_All (λ (e : Effect). e.var ≡ var → Fires task s e ↔ FiresAt val e) effects
    (λ k d lt same. alike (get_or effects k d) (elim (local k d lt)
    [ inl off ↦ absurd (off same) | inr on_it ↦ on_it ]))) after)
    (computed effects var val)
  where
    alike : (e : Effect) → All (λ (fact : Fact). fact.var ≡ var) e.conds → Fires task s e ↔ FiresAt (get_or s (place task var) 0) e
    alike e on_it = (
      (λ fires k d lt.
          let fact = get_or e.conds k d in
          let here : IsBase task fact.var = subst (IsBase task) (sym (on_it k d lt)) on in
          sym (base_value task s fact here (fires k d lt)) ∙ ap (λ (v : ℕ). get_or s (place task v) 0) (on_it k d lt)),
      (λ at k d lt.
          let fact = get_or e.conds k d in
          let here : IsBase task fact.var = subst (IsBase task) (sym (on_it k d lt)) on in
          inl (here, ap (λ (v : ℕ). get_or s (place task v) 0) (on_it k d lt) ∙ sym (at k d lt))),
    )

-- how the first operator and the second meet at a variable: the first doesn't write it, the second doesn't touch it, or both depend on its value alone
abbrev pub Touch : TaskParts → Operator → Operator → ℕ → Type 0
Touch task one other var =
    Unwritten var one.effects ⊎ Untouched task other var ⊎ (AreLocal var one.effects × AreLocal var other.effects
    × IsSomeAnd (slice_get task.variables var) (λ v. MeetEach task one other var (range v)))

at_range : (P : Variable → Type 0) (val : ℕ) (Q : Type 0) (o : Option Variable) → IsSomeAnd o (λ v. v.layer ≡ None)
    → IfSome o (λ v. v.layer ≡ None → val < range v) → IsSomeAnd o P
    → ((v : Variable) → val < range v → P v → Q) → Q
at_range P val Q None on lt h f = absurd on
at_range P val Q (Some v) on lt h f = f v (lt on) h

module _ (task : TaskParts) (s t : List ℕ) (one other : Operator) (state : IsState task s) (fit : FitsOperator task.variables other)
    (first : Allowed task s one) (second : Allowed task s other) (leaves : Leaves task s one t) (touch : (var : ℕ) → Touch task one other var) where
  -- both at the value that the variable has
  pub meet_at : (var : ℕ) → IsBase task var → IsSomeAnd (slice_get task.variables var)
      (λ v. MeetEach task one other var (range v)) → MeetAt task one other var (get_or s (place task var) 0)
  meet_at var on each =
      at_range (λ v. MeetEach task one other var (range v)) (get_or s (place task var) 0)
      (MeetAt task one other var (get_or s (place task var) 0)) (slice_get task.variables var) on
      (state.in_range var) each
      (λ v lt m. m (get_or s (place task var) 0) lt (allows_value task s one var on first) (allows_value task s other var on second))

  stays : (var : ℕ) → IsBase task var → Unwritten var one.effects → Agree task s t var
  stays var on none = sym (unwritten (Fires task s) one.effects var (get_or s (place task var) 0) (get_or t (place task var) 0) none (leaves var on))

  moves : (var : ℕ) → IsBase task var → AreLocal var one.effects → get_or t (place task var) 0 ≡ value_after one.effects var (get_or s (place task var) 0)
  moves var on local = local_value task s one.effects var (get_or t (place task var) 0) on local (leaves var on)

  -- the first leaves a variable, or the second ignores it
  kept : (var : ℕ) → IsBase task var → Agree task s t var ⊎ Ignores task other var
  kept var on = elim (touch var) [
    | inl none ↦ inl (stays var on none)
    | inr (inl un) ↦ inr un.2
    | inr (inr loc) ↦ elim (meet_at var on loc.2).left [ inl same ↦ inl (sym (moves var on loc.0 ∙ same)) | inr ig ↦ inr ig ]
  ]

  rules_agree : (ReadsBaseAlone task other → ⊥) → RulesAgree task s t
  rules_agree derived var on = elim (kept var on) [
    | inl e ↦ inr e
    | inr ig ↦ elim ig.1 [ inl base ↦ absurd (derived base) | inr un ↦ inl un ]
  ]

  -- an effect of the second fires as before, where its variable is as before
  cond_same : (k : ℕ) (d : Effect) (lt : k < length other.effects) (j : ℕ) (e : Fact)
      (within : j < length (get_or other.effects k d).conds) → Agree task s t (get_or other.effects k d).var
      → Holds task s (get_or (get_or other.effects k d).conds j e) ↔ Holds task t (get_or (get_or other.effects k d).conds j e)
  cond_same k d lt j e within agree =
      holds_same task s t fact
      (λ on. elim (cases_eq effect.var fact.var) [
        | inl same ↦ subst (Agree task s t) same agree
        | inr off ↦ elim (kept fact.var on) [
          | inl a ↦ a
          | inr ig ↦ elim (ig.0 k d lt) [ inl same ↦ absurd (off same) | inr none ↦ absurd (none j e within refl) ]
        ]
      ])
      (λ layer on. rules_agree (λ reads. base_derived task fact.var layer (reads.1 k d lt j e within) on))
    where
      effect : Effect
      effect = get_or other.effects k d

      fact : Fact
      fact = get_or effect.conds j e

  pub fires_same : (k : ℕ) (d : Effect) → k < length other.effects → Agree task s t (get_or other.effects k d).var
      → Fires task s (get_or other.effects k d) ↔ Fires task t (get_or other.effects k d)
  fires_same k d lt agree = (
    (λ h j e within. (cond_same k d lt j e within agree).0 (h j e within)),
    (λ h j e within. (cond_same k d lt j e within agree).1 (h j e within)),
  )

  -- what the second asks for holds after the first

  fact_after : (fact : Fact) → InRange task.variables fact → ((layer : ℕ) → HasLayer task fact.var layer → RulesAgree
      task s t) → (AllowsValue other fact.var (value_after one.effects fact.var (get_or s (place task fact.var) 0))
      → fact.val ≡ value_after one.effects fact.var (get_or s (place task fact.var) 0))
      → (Untouched task other fact.var → ⊥) → Holds task s fact → Holds task t fact
  fact_after fact within rules asked touched h = elim (which task fact within) [
    | inl on ↦ elim (touch fact.var) [
      | inl none ↦ holds_to task s t fact (λ _. stays fact.var on none) rules h
      | inr (inl un) ↦ absurd (touched un)
      | inr (inr loc) ↦ inl (on, moves fact.var on loc.0 ∙ sym (asked (meet_at fact.var on loc.2).allowed))
    ]
    | inr (layer, on) ↦ holds_to task s t fact (λ base. absurd (base_derived task fact.var layer base on)) rules h
  ]

  pre_after : (k : ℕ) (d : Effect) → k < length other.effects → (pre : Option ℕ)
      → (get_or other.effects k d).pre ≡ pre → IfSome pre (λ val. InRange task.variables
      (record { var = (get_or other.effects k d).var; val = val }))
      → IfSome pre (λ val. Holds task s (record { var = (get_or other.effects k d).var; val = val }))
      → IfSome pre (λ val. Holds task t (record { var = (get_or other.effects k d).var; val = val }))
  pre_after k d lt None is within h = tt
  pre_after k d lt (Some val) is within h =
      let effect = get_or other.effects k d in
      fact_after (record { var = effect.var; val = val }) within
      (λ layer on. absurd (on_base layer (λ v. effect.post < range v) (slice_get task.variables effect.var) (fit.each k d lt).on on))
      (λ allowed. let now = value_after one.effects effect.var (get_or s (place task effect.var) 0) in subst
      (λ (o : Option ℕ). IfSome o (λ asked. asked ≡ now)) is (allowed.1 k d lt refl))
      (λ un. un.1 k d lt refl) h
    where
      on_base : (layer : ℕ) (P : Variable → Type 0) (o : Option Variable) → IsSomeAnd o (λ v. (v.layer ≡ None) × P v)
          → IsSomeAnd o (λ v. v.layer ≡ Some layer) → ⊥
      on_base layer P None h k = h
      on_base layer P (Some v) h k = (let e : None ≡ Some layer = sym h.0 ∙ k in cc)

  pub allowed_after : Allowed task t other
  allowed_after = record {
    prevail = λ k d lt.
        let fact = get_or other.prevail k d in
        fact_after fact (fit.prevail.1 k d lt) (λ layer on. rules_agree
        (λ reads. base_derived task fact.var layer (reads.0 k d lt) on)) (λ allowed. allowed.0 k d lt refl)
        (λ un. un.0 k d lt refl) (second.prevail k d lt);
    effects = λ k d lt. (let effect = get_or other.effects k d in pre_after k d lt effect.pre refl (fit.each k d lt).pre (second.effects k d lt));
  }

  -- what the first doesn't write is, after both, what the second alone makes of it
  pub quiet : (u v : List ℕ) → Leaves task s other u → Leaves task t other v → (var : ℕ) → IsBase task var
      → Unwritten var one.effects → get_or v (place task var) 0 ≡ get_or u (place task var) 0
  quiet u v alone after var on none =
      let old = get_or s (place task var) 0 in
      let same : Agree task s t var = stays var on none in
      let moved = subst (λ (z : ℕ). ValueAfter (Fires task t) other.effects var z (get_or v (place task var) 0)) (sym same) (after var on) in
      let like = recursion_from_All (λ (e : Effect). e.var ≡ var → Fires task t e ↔ Fires task s e) other.effects (λ k d lt here.
      let both = fires_same k d lt (subst (Agree task s t) (sym here) same) in (both.1, both.0)) in
      value_one (Fires task s) other.effects var old (get_or v (place task var) 0) (get_or u (place task var) 0)
      (after_like (Fires task t) (Fires task s) other.effects var old (get_or v (place task var) 0) like moved)
      (alone var on)

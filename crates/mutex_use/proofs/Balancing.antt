-- Operators that keep a group: those that have no effect on its variables, and balanced ones.
use Rattle.std.proofs.Common.{◌≡◌, ℕ, ◌+◌, ◌<◌, ◌≤◌, ◌⊎◌, inl, inr, List, [], ◌∷◌, ◌++◌, length, get_or, Option, Some, None, IfSome, IsSomeAnd, slice_get, refl, sym, ◌∙◌, ap, subst, arith}
use Rattle.std.specs.List.{Contains, All, Any}
use Rattle.std.proofs.lemmas.Option.{slice_get_within}
use Rattle.std.proofs.lemmas.List.{get_or_default}
use Rattle.std.proofs.lemmas.List.Elements.{All-contains, All-nil, All-push, All-from_recursion, Contains-append_left, Contains-append_right, Contains-push}
use Rattle.symk_task.specs.declared.parts.Fact.{Fact}
use Rattle.symk_task.specs.declared.parts.Effect.{Effect}
use Rattle.symk_task.specs.declared.parts.Operator.{Operator}
use Rattle.symk_task.specs.declared.parts.TaskParts.{TaskParts}
use Rattle.symk_task.specs.Variables.{IsBase, place}
use Rattle.symk_task.specs.Steps.{Holds, Fires, Allows, NoneOn, ValueAfter, Step}
use Rattle.task_system.specs.System.{State}
use Rattle.space_api.proofs.Facts.{base_holds}
use Rattle.mutex_use.specs.Groups.{HasAtMostOne, AreBaseFacts}
use Rattle.mutex_use.specs.Writers.{Touches, HaveTouching}
use Rattle.mutex_use.specs.Balance.{fact_after, Adds, Takes, AddsNone, AddsAsAll, IsBalanced, IsBalancedAt, HaveUnbalanced, HaveBreaking}
use Rattle.mutex_use.proofs.Lists.{in_list}

-- An operator that has no effect on a variable leaves its value.

module _ (task : TaskParts) (facts : List Fact) (s t : State) (a : ℕ) (base : AreBaseFacts task facts)
    (step : Step task s a t) (idle : ¬ Touches task a facts) where
  value_stays : (f : Fact) → Contains facts f → get_or t (place task f.var) 0 ≡ get_or s (place task f.var) 0
  value_stays f has = by (slice_get task.operators a) refl step.1.values
    where
      by : (o : Option Operator) → slice_get task.operators a ≡ o
          → IsSomeAnd o (λ operator. (var : ℕ) → IsBase task var
          → ValueAfter (Fires task s) operator.effects var (get_or s (place task var) 0)
          (get_or t (place task var) 0))
          → get_or t (place task f.var) 0 ≡ get_or s (place task f.var) 0
      by None is h = absurd h
      by (Some operator) is h = elim (h f.var (All-contains (λ (z : Fact). IsBase task z.var) facts f base has)) [
        | inl (last, on, e) ↦ absurd
            (idle (
              f,
              has,
              (
                operator,
                last,
                is,
                subst (λ (z : List Effect). Contains z last) (sym on.here)
                    (Contains-append_right on.before (last ∷ on.later) last (0, omega arith, refl)),
                on.on,
              ),
            ))
        | inr x ↦ x.1
      ]

  held : (f : Fact) → Contains facts f → Holds task t f → Holds task s f
  held f has h =
      let is = All-contains (λ (z : Fact). IsBase task z.var) facts f base has in
      (base_holds task s f is).1 (sym (value_stays f has) ∙ (base_holds task t f is).0 h)

  idle_keeps : HasAtMostOne task facts s → HasAtMostOne task facts t
  idle_keeps most f h cf ch hf hh = most f h cf ch (held f cf hf) (held h ch hh)

-- What holds after a step was made so by an effect, or held before; a balanced operator takes a fact of the group away, so
-- none of them that held before is left.

module _ (task : TaskParts) (facts : List Fact) (s t : State) (a : ℕ) (operator : Operator)
    (base : AreBaseFacts task facts) (at : slice_get task.operators a ≡ Some operator) (step : Step task s a t) where
  abbrev IsMade : Fact → Type 0
  IsMade f = (e : Effect) × Contains operator.effects e × (fact_after e ≡ f)

  abbrev IsLeft : Fact → Type 0
  IsLeft f = NoneOn (Fires task s) f.var operator.effects × Holds task s f

  applies : All (Holds task s) operator.prevail × All (Allows task s) operator.effects
  applies = subst (λ (o : Option Operator). IsSomeAnd o (λ x. All (Holds task s) x.prevail × All (Allows task s) x.effects)) at step.0

  values : (var : ℕ) → IsBase task var → ValueAfter (Fires task s) operator.effects var (get_or s (place task var) 0) (get_or t (place task var) 0)
  values = subst (λ (o : Option Operator). IsSomeAnd o (λ x. (var : ℕ) → IsBase task var → ValueAfter (Fires task s)
      x.effects var (get_or s (place task var) 0) (get_or t (place task var) 0))) at step.1.values

  made_as : (e : Effect) (f : Fact) → e.var ≡ f.var → e.post ≡ f.val → fact_after e ≡ f
  made_as e f p q = λ i. record { var = p i; val = q i }

  made_or_left : (f : Fact) → Contains facts f → Holds task t f → IsMade f ⊎ IsLeft f
  made_or_left f has h =
      let is = All-contains (λ (z : Fact). IsBase task z.var) facts f base has in
      let val = (base_holds task t f is).0 h in
      elim (values f.var is) [
        | inl (last, on, e) ↦ inl (
          last,
          subst (λ (z : List Effect). Contains z last) (sym on.here)
              (Contains-append_right on.before (last ∷ on.later) last (0, omega arith, refl)),
          made_as
              last f on.on (sym e ∙ val),
        )
        | inr x ↦ inr (x.0, (base_holds task s f is).1 (sym x.1 ∙ val))
      ]

  none_left : Any (Takes facts) operator.effects → HasAtMostOne task facts s → (f : Fact) → Contains facts f → IsLeft f → ⊥
  none_left (k, d, low, at_k, (val, pre, conds, inside)) most f cf (none, holds) =
      All-contains (λ (e : Effect). e.var ≡ f.var → ¬ Fires task s e) operator.effects d
      (All-from_recursion (λ (e : Effect). e.var ≡ f.var → ¬ Fires task s e) operator.effects none) has
      (sym (ap (λ (z : Fact). z.var) (most f asked cf inside holds asked_holds))) fires
    where
      has : Contains operator.effects d
      has = (k, low, at_k)

      asked : Fact
      asked = record { var = d.var; val = val }

      asked_holds : Holds task s asked
      asked_holds = subst (λ (o : Option ℕ). IfSome o (λ v. Holds task s (record { var = d.var; val = v }))) pre
          (All-contains (Allows task s) operator.effects d applies.1 has)

      fires : Fires task s d
      fires = subst (λ (z : List Fact). All (Holds task s) z) (sym conds) (All-nil (Holds task s))

  adds_none : (f : Fact) → All (AddsNone facts) operator.effects → IsMade f → Contains facts f → ⊥
  unfolding AddsNone
  adds_none f none (e, has, is) cf = All-contains (AddsNone facts) operator.effects e none has (subst (Contains facts) (sym is) cf)

  adds_one : (f h : Fact) → All (AddsAsAll facts operator.effects) operator.effects → IsMade f → IsMade h → Contains facts f → Contains facts h → f ≡ h
  unfolding AddsAsAll
  adds_one f h one (d, at_d, is_d) (e, at_e, is_e) cf ch =
      let as_e = All-contains (AddsAsAll facts operator.effects) operator.effects e one at_e (subst (Contains facts) (sym is_e) ch) in
      sym is_d ∙ All-contains (λ (z : Effect). Adds facts z → fact_after z ≡ fact_after e) operator.effects d as_e
      at_d (subst (Contains facts) (sym is_d) cf) ∙ is_e

  balanced_keeps : IsBalanced facts operator.effects → HasAtMostOne task facts s → HasAtMostOne task facts t
  balanced_keeps (inl none) most f h cf ch hf hh = elim (made_or_left f cf hf) [
    | inl m ↦ absurd (adds_none f none m cf)
    | inr l ↦ elim (made_or_left h ch hh) [
      | inl m ↦ absurd (adds_none h none m ch)
      | inr k ↦ most f h cf ch l.1 k.1
    ]
  ]
  balanced_keeps (inr (takes, one)) most f h cf ch hf hh = elim (made_or_left f cf hf) [
    | inl m ↦ elim (made_or_left h ch hh) [
      | inl n ↦ adds_one f h one m n cf ch
      | inr k ↦ absurd (none_left takes most h ch k)
    ]
    | inr l ↦ absurd (none_left takes most f cf l)
  ]

-- Which operators are looked at so far: each is one of the list, or balanced.

pub record AreLookedAt (operators : List Operator) (facts : List Fact) (among : List ℕ) (i : ℕ) (left : List ℕ) : Type 0 where
  pub all : (k d : ℕ) → k < i → Contains left (get_or among k d) ⊎ IsBalancedAt operators facts (get_or among k d)
  pub only : All (λ (op : ℕ). op < length operators) left

at_or_below : (k n : ℕ) → k < n + 1 → (k < n) ⊎ (k ≡ n)
at_or_below k n lt = grind arith

pub looked_none : (operators : List Operator) (facts : List Fact) (among left : List ℕ) → left ≡ [] → AreLookedAt operators facts among 0 left
looked_none operators facts among left is = record {
  all = λ k d lt. absurd (omega (arith, lt));
  only = subst (λ (z : List ℕ). All (λ (op : ℕ). op < length operators) z) (sym is) (All-nil (λ (op : ℕ). op < length operators));
}

module _ (operators : List Operator) (facts : List Fact) (among left : List ℕ) (i x : ℕ) (lt : i < length among)
    (is : get_or among i x ≡ x) (l : AreLookedAt operators facts among i left) where
  at_place : (k d : ℕ) → k ≡ i → get_or among k d ≡ x
  at_place k d e = subst (λ (z : ℕ). get_or among z d ≡ x) (sym e) (get_or_default among i d x lt ∙ is)

  pub looked_more : x < length operators → AreLookedAt operators facts among (i + 1) (left ++ x ∷ [])
  looked_more below = record {
    all = λ k d low. elim (at_or_below k i low) [
      | inl m ↦ elim (l.all k d m) [ inl h ↦ inl (Contains-append_left left (x ∷ []) (get_or among k d) h) | inr b ↦ inr b ]
      | inr e ↦ inl (subst (Contains (left ++ x ∷ [])) (sym (at_place k d e)) (Contains-push left x))
    ];
    only = All-push (λ (op : ℕ). op < length operators) left x l.only below;
  }

  pub looked_same : IsBalancedAt operators facts x → AreLookedAt operators facts among (i + 1) left
  looked_same b = record {
    all = λ k d low. elim (at_or_below k i low) [
      | inl m ↦ l.all k d m
      | inr e ↦ inr (subst (IsBalancedAt operators facts) (sym (at_place k d e)) b)
    ];
    only = l.only;
  }

pub looked_end : (operators : List Operator) (facts : List Fact) (among left : List ℕ) (i : ℕ) → length among ≤ i
    → AreLookedAt operators facts among i left → HaveUnbalanced operators facts among left
looked_end operators facts among left i end l = record {
  all = λ op h. elim (l.all h.0 op (omega (arith, h.1, end))) [
    | inl c ↦ inl (subst (Contains left) h.2 c)
    | inr b ↦ inr (subst (IsBalancedAt operators facts) h.2 b)
  ];
  only = l.only;
}

-- of those that have an effect on a variable of the group, the ones that aren't balanced are all that may break it
pub breaking_end : (task : TaskParts) (facts : List Fact) (among left : List ℕ) → AreBaseFacts task facts
    → HaveTouching task facts among → HaveUnbalanced task.operators facts among left → HaveBreaking task facts left
breaking_end task facts among left base have u = record { all = all; only = u.only }
  where
    number : (op : ℕ) → Touches task op facts → op < length task.operators
    number op touches = (let writes = touches.2 in slice_get_within task.operators op writes.0 writes.2)

    keeps : (op : ℕ) (s t : State) → HasAtMostOne task facts s → Step task s op t → (o : Option Operator)
        → slice_get task.operators op ≡ o → IsSomeAnd o (λ operator. IsBalanced facts operator.effects)
        → HasAtMostOne task facts t
    keeps op s t most step None at b = absurd b
    keeps op s t most step (Some operator) at b = balanced_keeps task facts s t op operator base at step b most

    all : (op : ℕ) (s t : State) → HasAtMostOne task facts s → Step task s op t → ¬ HasAtMostOne task facts t → Contains left op
    all op s t most step fails = elim (in_list among op) [
      | inl h ↦ elim (u.all op h) [
        | inl c ↦ c
        | inr b ↦ absurd (fails (keeps op s t most step (slice_get task.operators op) refl b))
      ]
      | inr out ↦ absurd (fails (idle_keeps task facts s t op base step (λ touches. out (have.all op (number op touches) touches)) most))
    ]

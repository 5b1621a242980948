-- The rules that count, by layer.
use Rattle.std.proofs.Common.{◌≡◌, ℕ, ◌+◌, ◌<◌, ◌≤◌, ◌⊎◌, inl, inr, List, [], ◌∷◌, ◌++◌, length, get_or, Some, IsSomeAnd, Option, slice_get, Contains, Any, sym, ap, subst, ◌∙◌, arith, length-append}
use Rattle.std.specs.List.{All}
use Rattle.std.proofs.Math.ListN.{get_or-append}
use Rattle.std.proofs.Math.Seq.{get_or-append_seam}
use Rattle.std.proofs.lemmas.Bool.{cases_eq}
use Rattle.std.proofs.lemmas.List.{get_or_default}
use Rattle.symk_task.specs.declared.parts.Rule.{Rule}
use Rattle.symk_task.specs.declared.parts.TaskParts.{TaskParts}
use Rattle.task_run.specs.declared.counting.Counting.{Counting}
use Rattle.task_run.specs.Layer.{IsOwnRule}
use Rattle.task_run.specs.Counted.{IsCounting}
use Rattle.task_run.specs.Work.{StandsInList}
use Rattle.symk_task.proofs.Layers.{one_layer}
use Rattle.task_run.proofs.Placing.{stands_left, stands_right, stands_parts}

contains_left : {X : Type 0} (xs : List X) (y x : X) → Contains xs x → Contains (xs ++ y ∷ []) x
contains_left xs y x (k, lt, e) = (k, omega (arith, length-append xs (y ∷ []), lt), get_or-append xs (y ∷ []) x k lt ∙ e)

contains_last : {X : Type 0} (xs : List X) (y : X) → Contains (xs ++ y ∷ []) y
contains_last xs y = (length xs, omega (arith, length-append xs (y ∷ [])), get_or-append_seam xs y [] y)

all_more : {X : Type 0} (P : X → Type 0) (xs : List X) (y : X) → All P xs → P y → All P (xs ++ y ∷ [])
all_more P xs y h p k d lt = elim (cases_eq k (length xs)) [
  | inl e ↦ subst P (sym (ap (λ (z : ℕ). get_or (xs ++ y ∷ []) z d) e ∙ get_or-append_seam xs y [] d)) p
  | inr ne ↦ (
      let ne2 : k ≡ length xs → ⊥ = ne in
      let lt2 : k < length xs = omega (arith, length-append xs (y ∷ []), lt, ne2) in
      subst P (sym (get_or-append xs (y ∷ []) d k lt2)) (h k d lt2))
]

abbrev counting_at : ℕ → ℕ → Counting
counting_at layer rule = record { layer = layer; rule = rule }

-- what the number says of the rule
own_at : (task : TaskParts) (i : ℕ) (rule : Rule) (counting : Counting) → slice_get task.rules i ≡ Some rule
    → counting.rule ≡ i → IsCounting task counting → IsOwnRule task counting.layer rule
own_at task i rule counting at e h =
    let at2 : slice_get task.rules counting.rule ≡ Some rule = ap (λ (z : ℕ). slice_get task.rules z) e ∙ at in
    subst (λ (z : Option Rule). IsSomeAnd z (IsOwnRule task counting.layer)) at2 h

pub counting_one : (task : TaskParts) (list : List Counting) (i layer : ℕ) (rule : Rule)
    → slice_get task.rules i ≡ Some rule → IsOwnRule task layer rule → All (IsCounting task) list
    → All (IsCounting task) (list ++ counting_at layer i ∷ [])
counting_one task list i layer rule at own h = all_more (IsCounting task) list (counting_at layer i) h
    (subst (λ (z : Option Rule). IsSomeAnd z (IsOwnRule task layer)) (sym at) own)

pub each_one : (task : TaskParts) (list : List Counting) (i layer : ℕ) (rule : Rule)
    → slice_get task.rules i ≡ Some rule → IsOwnRule task layer rule
    → ((x : Counting) → x.rule < i → IsCounting task x → Contains list x)
    → (x : Counting) → x.rule < i + 1 → IsCounting task x → Contains (list ++ counting_at layer i ∷ []) x
each_one task list i layer rule at own h x lt is = elim (cases_eq x.rule i) [
  | inl e ↦ (
      let same : x.layer ≡ layer = one_layer task rule.var x.layer layer (own_at task i rule x at e is).on own.on in
      let it : counting_at layer i ≡ x = ap (λ (z : ℕ). counting_at z i) (sym same) ∙ ap (λ (z : ℕ). counting_at x.layer z) (sym e) in
      subst (λ (z : Counting). Contains (list ++ counting_at layer i ∷ []) z) it (contains_last list (counting_at layer i)))
  | inr ne ↦ (let ne2 : x.rule ≡ i → ⊥ = ne in contains_left list (counting_at layer i) x (h x (omega (arith, ne2, lt)) is))
]

pub each_same : (task : TaskParts) (list : List Counting) (i : ℕ) (rule : Rule) → slice_get task.rules i ≡ Some rule
    → rule.new ≡ get_or task.initial rule.var 0 → ((x : Counting) → x.rule < i → IsCounting task x → Contains list
    x)
    → (x : Counting) → x.rule < i + 1 → IsCounting task x → Contains list x
each_same task list i rule at default h x lt is = elim (cases_eq x.rule i) [
  | inl e ↦ absurd ((own_at task i rule x at e is).counts default)
  | inr ne ↦ (let ne2 : x.rule ≡ i → ⊥ = ne in h x (omega (arith, ne2, lt)) is)
]

pub counting_within : (task : TaskParts) (x : Counting) → IsCounting task x → x.rule < length task.rules
counting_within task x is = Rattle.symk_task.proofs.Places.within_some (IsOwnRule task x.layer) task.rules x.rule is

-- the rules of a layer, one after the other
module _ (rules : List Counting) (end : ℕ) (c : Counting) (within : end < length rules) where
  pub same_more : {layer : ℕ} (from : ℕ) → (get_or rules end c).layer ≡ layer
      → ((k : ℕ) (d : Counting) → from ≤ k → k < end → (get_or rules k d).layer ≡ layer)
      → (k : ℕ) (d : Counting) → from ≤ k → k < end + 1 → (get_or rules k d).layer ≡ layer
  same_more from e h k d low lt = elim (cases_eq k end) [
    | inl same ↦ (let it : get_or rules k d ≡ get_or rules end c = ap (λ (z : ℕ). get_or rules z d) same
        ∙ get_or_default rules end d c within in ap (λ (z : Counting). z.layer) it ∙ e)
    | inr ne ↦ (let ne2 : k ≡ end → ⊥ = ne in h k d low (omega (arith, ne2, lt)))
  ]

  pub stacked_more : (stack : List ℕ) (from : ℕ)
      → ((k : ℕ) (d : Counting) → from ≤ k → k < end → StandsInList stack (get_or rules k d).rule)
      → (k : ℕ) (d : Counting) → from ≤ k → k < end + 1
      → StandsInList (stack ++ (get_or rules end c).rule ∷ []) (get_or rules k d).rule
  stacked_more stack from h k d low lt = elim (cases_eq k end) [
    | inl same ↦ (
        let it : get_or rules k d ≡ get_or rules end c = ap (λ (z : ℕ). get_or rules z d) same
        ∙ get_or_default rules end d c within in
        stands_right stack ((get_or rules end c).rule ∷ []) (get_or rules k d).rule
        (inl (ap (λ (z : Counting). z.rule) (sym it))))
    | inr ne ↦ (let ne2 : k ≡ end → ⊥ = ne in
        stands_left stack ((get_or rules end c).rule ∷ []) (get_or rules k d).rule (h k d low (omega (arith, ne2, lt))))
  ]

  pub only_more : (old stack : List ℕ)
      → ((x : ℕ) → StandsInList stack x → StandsInList old x ⊎ Any (λ (counting : Counting). counting.rule ≡ x) rules)
      → (x : ℕ) → StandsInList (stack ++ (get_or rules end c).rule ∷ []) x
      → StandsInList old x ⊎ Any (λ (counting : Counting). counting.rule ≡ x) rules
  only_more old stack h x s = elim (stands_parts stack ((get_or rules end c).rule ∷ []) x s) [
    | inl p ↦ h x p
    | inr p ↦ elim p [
      | inl e ↦ (let it : get_or rules end (get_or rules end c) ≡ get_or rules end c =
          get_or_default rules end (get_or rules end c) c within in inr (end, get_or rules end c, within, it, e))
      | inr n ↦ absurd n
    ]
  ]

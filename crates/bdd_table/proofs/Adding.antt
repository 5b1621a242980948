-- A node is added to a reduced list.
use Rattle.std.proofs.Common.{◌≡◌, ◌≢◌, ℕ, zero, suc, ◌+◌, ◌<◌, ◌≤◌, ◌||◌, Bool, true, false, cond, ◌⊎◌, inl, inr, List, [], ◌∷◌, ◌++◌, length, slice_get, Some, Result, Ok, Err, IfOk, OnErr, refl, sym, ◌∙◌, ap, subst, arith, get_or-append-add, length-append, true≢false, eq-eqb, if◌then◌else◌, take}
use Rattle.std.proofs.lemmas.List.{get_or_append_left, get_or_default, get_or-take, length-take, take_more}
use Rattle.std.specs.List.{list_any}
use Rattle.indexmap.specs.IndexSet.{insert_key}
use Rattle.indexmap.proofs.CallerLemmas.{Contains-list_any}
use Rattle.bdd_table.specs.declared.node.Node.{Node}
use Rattle.bdd_table.specs.Diagram.{Bits, node_of, at, level_of, means, IsInner, IsReduced, GrowsTable, Keeps, AddsNode}
use Rattle.bdd_table.specs.NodeHash.{node_eq, node_eq_same}
use Rattle.bdd_table.proofs.Canonical.{order}
use Rattle.bdd_table.proofs.Meaning.{means_chosen, chosen_known, keeps_grown}

module _ (xs : List Node) (n : Node) where
  pub at_old : (i : ℕ) → i < length xs → at (xs ++ n ∷ []) i ≡ at xs i
  at_old i h = get_or_append_left xs (n ∷ []) (node_of 4294967295 0 0) i h

  pub at_last : at (xs ++ n ∷ []) (length xs) ≡ n
  at_last = let e : length xs + 0 ≡ length xs = omega arith in
      ap (at (xs ++ n ∷ [])) (sym e) ∙ get_or-append-add xs (n ∷ []) 0 (node_of 4294967295 0 0)

  pub length_pushed : length (xs ++ n ∷ []) ≡ suc (length xs)
  length_pushed = omega (arith, length-append xs (n ∷ []))

  -- an index of the longer list
  place : (i : ℕ) → i < length (xs ++ n ∷ []) → (i < length xs) ⊎ (i ≡ length xs)
  place i h = elim (order i (length xs)) [
    | inl a ↦ inl a
    | inr (inl e) ↦ inr e
    | inr (inr a) ↦ absurd (omega (arith, length_pushed))
  ]

  module _ (r : IsReduced xs) (lo : n.lo < length xs) (hi : n.hi < length xs) (differ : n.lo ≡ n.hi → ⊥)
      (lo_below : n.level < level_of xs n.lo) (hi_below : n.level < level_of xs n.hi)
      (absent : (i : ℕ) → i < length xs → at xs i ≡ n → ⊥) where
    inner_old : (i : ℕ) → 2 ≤ i → i < length xs → IsInner (xs ++ n ∷ []) i
    inner_old i two h = let o = r.inner i two h in record {
      lo_before = rw (at_old i h) o.lo_before;
      hi_before = rw (at_old i h) o.hi_before;
      differ = rw (at_old i h) o.differ;
      lo_below = subst (λ (m : Node). m.level < level_of (xs ++ n ∷ []) m.lo) (sym (at_old i h))
          (subst (λ (m : Node). (at xs i).level < m.level)
          (sym (at_old (at xs i).lo (omega (arith, o.lo_before)))) o.lo_below);
      hi_below = subst (λ (m : Node). m.level < level_of (xs ++ n ∷ []) m.hi) (sym (at_old i h))
          (subst (λ (m : Node). (at xs i).level < m.level)
          (sym (at_old (at xs i).hi (omega (arith, o.hi_before)))) o.hi_below);
    }

    inner_last : IsInner (xs ++ n ∷ []) (length xs)
    inner_last = record {
      lo_before = rw at_last lo;
      hi_before = rw at_last hi;
      differ = rw at_last differ;
      lo_below = subst (λ (m : Node). m.level < level_of (xs ++ n ∷ []) m.lo) (sym at_last)
          (subst (λ (m : Node). n.level < m.level) (sym (at_old n.lo lo)) lo_below);
      hi_below = subst (λ (m : Node). m.level < level_of (xs ++ n ∷ []) m.hi) (sym at_last)
          (subst (λ (m : Node). n.level < m.level) (sym (at_old n.hi hi)) hi_below);
    }

    pub reduced_push : IsReduced (xs ++ n ∷ [])
    reduced_push = record {
      constants = omega (arith, r.constants, length_pushed);
      of_false = at_old 0 (omega (arith, r.constants)) ∙ r.of_false;
      of_true = at_old 1 (omega (arith, r.constants)) ∙ r.of_true;
      inner = λ i two h. elim (place i h) [ inl a ↦ inner_old i two a | inr e ↦ subst (IsInner (xs ++ n ∷ [])) (sym e) inner_last ];
      unique = λ i j hi hj e. elim (place i hi) [
        | inl a ↦ elim (place j hj) [
          | inl b ↦ r.unique i j a b (sym (at_old i a) ∙ e ∙ at_old j b)
          | inr f ↦ absurd (absent i a (sym (at_old i a) ∙ e ∙ ap (at (xs ++ n ∷ [])) f ∙ at_last))
        ]
        | inr g ↦ elim (place j hj) [
          | inl b ↦ absurd (absent j b (sym (at_old j b) ∙ sym e ∙ ap (at (xs ++ n ∷ [])) g ∙ at_last))
          | inr f ↦ g ∙ sym f
        ]
      ];
    }

module _ (eq : Node → Node → Bool) (itself : (x : Node) → eq x x ≡ true) (same : (x y : Node) → eq x y ≡ true → x ≡ y) where
  absent_of : (xs : List Node) (n : Node) → list_any (eq n) xs ≡ false → (i : ℕ) → i < length xs → at xs i ≡ n → ⊥
  absent_of [] n h i k e = absurd (omega arith)
  absent_of (x ∷ xs) n h zero k e = true≢false (sym (ap (λ t. t || list_any (eq n) xs) (ap (eq n) e ∙ itself n)) ∙ h)
  absent_of (x ∷ xs) n h (suc i) k e = absent_of xs n (rest (eq n x) (list_any (eq n) xs) h) i (omega arith) e
    where
      rest : (a b : Bool) → (a || b) ≡ false → b ≡ false
      rest true b h = absurd (true≢false h)
      rest false b h = h

  got : (ys : List Node) (i : ℕ) (k : Node) → slice_get ys i ≡ Some k → at ys i ≡ k
  got [] i k e = cc
  got (y ∷ ys) zero k e = cc
  got (y ∷ ys) (suc i) k e = got ys i k e

  pub adds_of : (xs ys : List Node) (n : Node) (id : ℕ) → ys ≡ insert_key eq xs n → id < length ys
      → ((k : Node) × (slice_get ys id ≡ Some k) × (eq n k ≡ true)) → AddsNode xs n ys id
  adds_of xs ys n id e known stored = record {
    known = known;
    is = got ys id stored.0 stored.1 ∙ sym (same n stored.0 stored.2);
    how = (elim (list_any (eq n) xs) as (λ t. list_any (eq n) xs ≡ t → (ys ≡ xs)
        ⊎ ((ys ≡ xs ++ n ∷ []) × (id ≡ length xs) × ((i : ℕ) → i < length xs → at xs i ≢ n))) [
          | true ↦ λ t. inl (e ∙ ap (λ c. if c then xs else xs ++ n ∷ []) t)
          | false ↦ λ t. inr (pushed t, last (pushed t) (absent_of xs n t), absent_of xs n t)
        ]) refl;
  }
    where
      here : at ys id ≡ n
      here = got ys id stored.0 stored.1 ∙ sym (same n stored.0 stored.2)

      pushed : list_any (eq n) xs ≡ false → ys ≡ xs ++ n ∷ []
      pushed t = e ∙ ap (λ c. if c then xs else xs ++ n ∷ []) t

      last : ys ≡ xs ++ n ∷ [] → ((i : ℕ) → i < length xs → at xs i ≢ n) → id ≡ length xs
      last p absent = elim (place xs n id (subst (λ (l : List Node). id < length l) p known)) [
        | inl a ↦ absurd (absent id a (sym (at_old xs n id a) ∙ sym (ap (λ l. at l id) p) ∙ here))
        | inr same ↦ same
      ]

-- the bits choose what a new node means
pub node_meaning : (ys : List Node) → IsReduced ys → (level lo hi id : ℕ) → id < length ys
    → at ys id ≡ node_of level lo hi → (b : Bits) → means ys id b ≡ cond (b level) (means ys hi b) (means ys lo b)
node_meaning ys r level lo hi id known is b =
    means_chosen ys r b id known ∙ ap (λ (m : Node). means ys (cond (b m.level) m.hi m.lo) b) is ∙ out (b level)
  where
    out : (v : Bool) → means ys (cond v hi lo) b ≡ cond v (means ys hi b) (means ys lo b)
    out true = refl
    out false = refl

pub lo_known : (xs : List Node) → IsReduced xs → (id : ℕ) → id < length xs → (at xs id).lo < length xs
lo_known xs r id h = chosen_known xs r (λ l. false) id h

pub hi_known : (xs : List Node) → IsReduced xs → (id : ℕ) → id < length xs → (at xs id).hi < length xs
hi_known xs r id h = chosen_known xs r (λ l. true) id h

pub ok_by : {T E : Type 0} (r : Result T E) (P Q : T → Type 0) → IfOk r P → ((x : T) → P x → Q x) → IfOk r Q
ok_by (Ok x) P Q h f = f x h
ok_by (Err e) P Q h f = tt

-- The node's children are two of the list, and stand below it.
pub record IsAbove (xs : List Node) (n : Node) : Type 0 where
  pub lo : n.lo < length xs
  pub hi : n.hi < length xs
  pub differ : n.lo ≡ n.hi → ⊥
  pub lo_below : n.level < level_of xs n.lo
  pub hi_below : n.level < level_of xs n.hi

pub reduced_after : {E : Type 0} (xs ys : List Node) (n : Node) (r : Result ℕ E) → IsReduced xs → IsAbove xs n
    → IfOk r (AddsNode xs n ys) → OnErr r (ys ≡ xs) → IsReduced ys
reduced_after xs ys n (Ok id) r above a e = elim (a.how) [
  | inl same ↦ subst IsReduced (sym same) r
  | inr p ↦ subst IsReduced (sym p.0)
      (reduced_push xs n r above.lo above.hi above.differ above.lo_below above.hi_below p.2)
]
reduced_after xs ys n (Err x) r above a e = subst IsReduced (sym e) r

pub grows_adds : (xs ys : List Node) (n : Node) (id : ℕ) → AddsNode xs n ys id → GrowsTable xs ys
grows_adds xs ys n id a = elim (a.how) [
  | inl same ↦ subst (GrowsTable xs) (sym same) (record { longer = omega arith; same = λ i h. refl })
  | inr p ↦ subst (GrowsTable xs) (sym p.0) (record { longer = omega (arith, length_pushed xs n); same = λ i h. at_old xs n i h })
]

pub kept_after : {E : Type 0} (xs ys : List Node) (n : Node) (r : Result ℕ E) → IsReduced xs → IfOk r (AddsNode xs n ys) → OnErr r (ys ≡ xs) → Keeps xs ys
kept_after xs ys n (Ok id) r a e = keeps_grown xs ys r (grows_adds xs ys n id a)
kept_after xs ys n (Err x) r a e = subst (Keeps xs) (sym e) (record { known = omega arith; meaning = λ id b h. refl })

pub meaning_after : {E : Type 0} (xs ys : List Node) (level lo hi : ℕ) (r : Result ℕ E) → IsReduced ys → IfOk r (AddsNode xs (node_of level lo hi) ys)
    → IfOk r (λ id. (b : Bits) → means ys id b ≡ cond (b level) (means ys hi b) (means ys lo b))
meaning_after xs ys level lo hi (Ok id) r a = node_meaning ys r level lo hi id a.known a.is
meaning_after xs ys level lo hi (Err x) r a = tt

pub node_eq_itself : (x : Node) → node_eq x x ≡ true
node_eq_itself x = rw (eq-eqb x.level x.level refl, eq-eqb x.lo x.lo refl, eq-eqb x.hi x.hi refl) refl

-- of nodes that differ none is among those before it
pub refilled : (kept keys new : List Node) (i : ℕ) → IsReduced kept → i < length kept → keys ≡ take i kept
    → new ≡ insert_key node_eq keys (at kept i) → new ≡ take (i + 1) kept
refilled kept keys new i r h e ins = ins
    ∙ ap (λ (ks : List Node). insert_key node_eq ks (at kept i)) e
    ∙ ap (λ (b : Bool). if b then take i kept else take i kept ++ at kept i ∷ []) none
    ∙ sym (take_more kept i (node_of 4294967295 0 0) h)
  where
    seen : list_any (node_eq (at kept i)) (take i kept) ≡ true → ⊥
    seen t = let m = Contains-list_any node_eq node_eq_same (take i kept) (at kept i) t in
        let short = length-take i kept in
        let before : m.0 < i = omega (arith, m.1, short) in
        let same = r.unique m.0 i (omega (arith, before, h)) h
        (sym (get_or-take i kept m.0 (node_of 4294967295 0 0) before) ∙ get_or_default (take i kept) m.0 (node_of 4294967295 0 0) (at kept i) m.1 ∙ m.2) in
        omega (arith, same, before)

    none : list_any (node_eq (at kept i)) (take i kept) ≡ false
    none = (elim (list_any (node_eq (at kept i)) (take i kept)) as (λ t. list_any (node_eq (at kept i)) (take i kept) ≡ t → t ≡ false) [
      | true ↦ λ t. absurd (seen t)
      | false ↦ λ t. refl
    ]) refl

-- A level that the roots don't depend on is the level of no node that they reach.
use Rattle.std.proofs.Common.{◌≡◌, ◌≢◌, ℕ, ◌<◌, ◌≤◌, ◌==◌, inl, inr, Bool, true, false, cond, List, length, get_or, refl, sym, ◌∙◌, ap, subst, arith, eqb-true, eq-eqb}
use Rattle.bdd_table.specs.declared.node.Node.{Node}
use Rattle.bdd_table.specs.Diagram.{Bits, at, level_of, means, IsReduced, put}
use Rattle.bdd_table.specs.Collected.{Reaches}
use Rattle.bdd_table.specs.Collected.Reaches.{root as reach_root, lo as reach_lo, hi as reach_hi}
use Rattle.bdd_table.proofs.Meaning.{split}
use Rattle.bdd_table.proofs.Canonical.{half, means_put, level_bound, canonical}
use Rattle.bdd_ops.specs.Renamed.{IgnoresLevel}

-- values put at two levels, in either order
put_twice : (b : Bits) (l m : ℕ) (v w : Bool) → l ≢ m → (k : ℕ) → put (put b l v) m w k ≡ put (put b m w) l v k
put_twice b l m v w apart k = by_m (k == m) refl
  where
    by_l : (t : Bool) → (k == l) ≡ t → (k == m) ≡ true → w ≡ cond t v w
    by_l true e f = absurd (apart (sym (eqb-true k l e) ∙ eqb-true k m f))
    by_l false e f = refl

    by_m : (t : Bool) → (k == m) ≡ t → cond t w (cond (k == l) v (b k)) ≡ cond (k == l) v (cond t w (b k))
    by_m true e = by_l (k == l) refl e
    by_m false e = refl

module _ (xs : List Node) (r : IsReduced xs) where
  low : (id : ℕ) → 2 ≤ id → id < length xs → level_of xs id < 4294967295
  low id two known = (let i = r.inner id two known in let h = i.lo_before in
      let up = level_bound xs r (at xs id).lo (omega (arith, h, known)) in
      let b = i.lo_below in omega (arith, b, up))

  half_is : (id : ℕ) (v : Bool) → half xs id (level_of xs id) v ≡ cond v (at xs id).hi (at xs id).lo
  half_is id v = (let t : (level_of xs id == level_of xs id) ≡ true =
      eq-eqb (level_of xs id) (level_of xs id) refl in ap (λ (t : Bool). cond t (cond v (at xs id).hi (at xs id).lo)
      id) t)

  -- what a child means
  child_means : (id : ℕ) (v : Bool) (b : Bits) → 2 ≤ id → id < length xs
      → means xs (cond v (at xs id).hi (at xs id).lo) b ≡ means xs id (put b (level_of xs id) v)
  child_means id v b two known = ap (λ (n : ℕ). means xs n b) (sym (half_is id v))
      ∙ sym (means_put xs r b (level_of xs id) id v known (low id two known) (omega arith))

  -- a node depends on its level
  own_level : (id : ℕ) → 2 ≤ id → id < length xs → IgnoresLevel (means xs id) (level_of xs id) → ⊥
  own_level id two known ignores =
      let i = r.inner id two known in
      let l = i.lo_before in
      let h = i.hi_before in
      i.differ (canonical xs r (at xs id).lo (at xs id).hi (omega (arith, l, known)) (omega (arith, h, known))
      (λ b. child_means id false b two known ∙ ignores b false ∙ sym (ignores b true) ∙ sym (child_means id true b two known)))

  -- what a node ignores, its children ignore
  child_ignores : (id l : ℕ) (v : Bool) → 2 ≤ id → id < length xs → l ≢ level_of xs id → IgnoresLevel (means xs id) l
      → IgnoresLevel (means xs (cond v (at xs id).hi (at xs id).lo)) l
  child_ignores id l v two known apart ignores b w =
      child_means id v (put b l w) two known
      ∙ ap (means xs id) (let e : put (put b l w) (level_of xs id) v ≡ put (put b (level_of xs id) v) l w =
      λ i k. put_twice b l (level_of xs id) w v apart k i in e)
      ∙ ignores (put b (level_of xs id) v) w
      ∙ sym (child_means id v b two known)

  pub record Ignored (l id : ℕ) : Type 0 where
    pub known : id < length xs
    pub ignores : IgnoresLevel (means xs id) l

  -- a constant is its own child
  constant_child : (id : ℕ) (v : Bool) → id < 2 → cond v (at xs id).hi (at xs id).lo ≡ id
  constant_child id true lt = elim (split id) [
    | inl z ↦ ap (λ (n : ℕ). (at xs n).hi) z ∙ ap (λ (n : Node). n.hi) r.of_false ∙ sym z
    | inr (inl z) ↦ ap (λ (n : ℕ). (at xs n).hi) z ∙ ap (λ (n : Node). n.hi) r.of_true ∙ sym z
    | inr (inr two) ↦ absurd (omega (arith, lt, two))
  ]
  constant_child id false lt = elim (split id) [
    | inl z ↦ ap (λ (n : ℕ). (at xs n).lo) z ∙ ap (λ (n : Node). n.lo) r.of_false ∙ sym z
    | inr (inl z) ↦ ap (λ (n : ℕ). (at xs n).lo) z ∙ ap (λ (n : Node). n.lo) r.of_true ∙ sym z
    | inr (inr two) ↦ absurd (omega (arith, lt, two))
  ]

  below_two : (id : ℕ) → (id ≡ 0) → id < 2
  below_two id e = omega (arith, e)

  below_two' : (id : ℕ) → (id ≡ 1) → id < 2
  below_two' id e = omega (arith, e)

  step : (l id : ℕ) (v : Bool) → Ignored l id → Ignored l (cond v (at xs id).hi (at xs id).lo)
  step l id v h = elim (split id) [
    | inl z ↦ subst (Ignored l) (sym (constant_child id v (below_two id z))) h
    | inr (inl z) ↦ subst (Ignored l) (sym (constant_child id v (below_two' id z))) h
    | inr (inr two) ↦ (
        let i = r.inner id two h.known in
        record {
          known = in_table v i.lo_before i.hi_before h.known;
          ignores = child_ignores id l v two h.known (λ e. own_level id two h.known (subst (IgnoresLevel (means xs id)) e h.ignores)) h.ignores;
        })
  ]
    where
      in_table : (v : Bool) → (at xs id).lo < id → (at xs id).hi < id → id < length xs → cond v (at xs id).hi (at xs id).lo < length xs
      in_table true lo hi known = omega (arith, hi, known)
      in_table false lo hi known = omega (arith, lo, known)

  pub reach_ignores : (roots : List ℕ) (l : ℕ) → ((i : ℕ) → i < length roots → (get_or roots i 0 < length xs)
      × IgnoresLevel (means xs (get_or roots i 0)) l) → (id : ℕ) → Reaches xs roots id → Ignored l id
  reach_ignores roots l each id (reach_root i lt) = (let h = each i lt in record { known = h.0; ignores = h.1 })
  reach_ignores roots l each id (reach_lo n h) = step l n false (reach_ignores roots l each n h)
  reach_ignores roots l each id (reach_hi n h) = step l n true (reach_ignores roots l each n h)

  -- so it is the level of none
  pub no_level : (roots : List ℕ) (l : ℕ) → ((i : ℕ) → i < length roots → (get_or roots i 0 < length xs) × IgnoresLevel
      (means xs (get_or roots i 0)) l) → (id : ℕ) → 2 ≤ id → id < length xs
      → Reaches xs roots id → level_of xs id ≢ l
  no_level roots l each id two known reached e =
      let h = reach_ignores roots l each id reached in
      own_level id two known (subst (IgnoresLevel (means xs id)) (sym e) h.ignores)

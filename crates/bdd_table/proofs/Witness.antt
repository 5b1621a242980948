-- An Id that isn't that of the constant false holds for some bits.
use Rattle.std.proofs.Common.{◌≡◌, ℕ, zero, suc, ◌<◌, ◌≤◌, ◌⊎◌, inl, inr, Bool, true, false, cond, List, length, refl, sym, ◌∙◌, ap, subst, arith, eqb, eq-eqb}
use Rattle.bdd_table.specs.declared.node.Node.{Node}
use Rattle.bdd_table.specs.Diagram.{Bits, at, level_of, means, IsReduced, put}
use Rattle.bdd_table.proofs.Meaning.{split, means_true}
use Rattle.bdd_table.proofs.Canonical.{half, means_put, level_bound}

-- an Id is that of the constant false, or another
pub is_zero : (n : ℕ) → (n ≡ 0) ⊎ (n ≡ 0 → ⊥)
is_zero zero = inl refl
is_zero (suc n) = inr (λ e. (let z : suc n ≡ 0 = e in omega (arith, z)))

module _ (xs : List Node) (r : IsReduced xs) where
  abbrev HoldsFor : ℕ → Type 0
  HoldsFor id = (b : Bits) × (means xs id b ≡ true)

  -- what is left of an Id holds for some bits, so it holds for these with the one of its level
  from_half : (id : ℕ) (v : Bool) → 2 ≤ id → id < length xs → HoldsFor (cond v (at xs id).hi (at xs id).lo) → HoldsFor id
  from_half id v two known (b, h) =
      let l = level_of xs id in
      let i = r.inner id two known in
      let up = level_bound xs r (at xs id).lo (let e = i.lo_before in omega (arith, e, known)) in
      let low : l < 4294967295 = (let e = i.lo_below in omega (arith, e, up)) in
      let there : half xs id l v ≡ cond v (at xs id).hi (at xs id).lo =
      (let t : eqb l l ≡ true = eq-eqb l l refl in ap (λ (t : Bool). cond t (cond v (at xs id).hi (at xs id).lo)
      id) t) in
      (put b l v, means_put xs r b l id v known low (omega arith) ∙ ap (λ (n : ℕ). means xs n b) there ∙ h)

  -- the way down to the constant true: of the two children at most one is the constant false
  within : (k id : ℕ) → id ≤ k → id < length xs → (id ≡ 0 → ⊥) → HoldsFor id
  within zero id le known some = absurd (some (omega (arith, le)))
  within (suc k) id le known some = elim (split id) [
    | inl z ↦ absurd (some z)
    | inr (inl one) ↦ ((λ l. false), subst (λ (n : ℕ). means xs n (λ l. false) ≡ true) (sym one) (means_true xs r (λ l. false)))
    | inr (inr two) ↦ (
        let i = r.inner id two known in
        let lo_in = i.lo_before in
        let hi_in = i.hi_before in
        let differ = i.differ in
        elim (is_zero (at xs id).lo) [
          | inl z ↦ from_half id true two known (within k (at xs id).hi (omega (arith, hi_in, le)) (omega (arith, hi_in, known)) (λ e. differ (z ∙ sym e)))
          | inr other ↦ from_half id false two known (within k (at xs id).lo (omega (arith, lo_in, le)) (omega (arith, lo_in, known)) other)
        ])
  ]

  -- the law
  pub holds_for_some : (id : ℕ) → id < length xs → (id ≡ 0 → ⊥) → (b : Bits) × (means xs id b ≡ true)
  holds_for_some id known some = within id id (omega arith) known some

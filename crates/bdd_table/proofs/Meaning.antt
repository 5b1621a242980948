-- Laws of `means` over lists of nodes.
use Rattle.std.proofs.Common.{◌≡◌, ℕ, zero, suc, ◌<◌, ◌≤◌, ◌==◌, Bool, true, false, cond, ◌⊎◌, inl, inr, List, length, refl, sym, ◌∙◌, ap, arith}
use Rattle.bdd_table.specs.declared.node.Node.{Node}
use Rattle.bdd_table.specs.Diagram.{Bits, at, level_of, chosen, leads, means, IsReduced, GrowsTable, Keeps}

-- an Id is a constant or an inner node
pub split : (id : ℕ) → (id ≡ 0) ⊎ (id ≡ 1) ⊎ (2 ≤ id)
split zero = inl refl
split (suc zero) = inr (inl refl)
split (suc (suc n)) = inr (inr (omega arith))

cond_same : (v : Bool) (n : ℕ) → cond v n n ≡ n
cond_same true n = refl
cond_same false n = refl

module _ (xs : List Node) (r : IsReduced xs) where
  -- the choice at a constant is the constant
  chosen_constant : (b : Bits) (id : ℕ) → id < 2 → chosen xs b id ≡ id
  chosen_constant b zero h = ap (λ (n : Node). cond (b n.level) n.hi n.lo) r.of_false ∙ cond_same (b 4294967295) 0
  chosen_constant b (suc zero) h = ap (λ (n : Node). cond (b n.level) n.hi n.lo) r.of_true ∙ cond_same (b 4294967295) 1
  chosen_constant b (suc (suc n)) h = absurd (omega arith)

  -- the choice at an inner node comes before it
  chosen_before : (b : Bits) (id : ℕ) → 2 ≤ id → id < length xs → chosen xs b id < id
  chosen_before b id two h =
      let i = r.inner id two h in
      elim (b (at xs id).level) as (λ v. cond v (at xs id).hi (at xs id).lo < id) [ true ↦ i.hi_before | false ↦ i.lo_before ]

  pub chosen_known : (b : Bits) (id : ℕ) → id < length xs → chosen xs b id < length xs
  chosen_known b id h = elim (split id) [
    | inl z ↦ let e = chosen_constant b id (omega arith) in omega (arith, e)
    | inr (inl z) ↦ let e = chosen_constant b id (omega arith) in omega (arith, e)
    | inr (inr two) ↦ let l = chosen_before b id two h in omega (arith, l)
  ]

  -- a constant leads to itself
  pub leads_constant : (k : ℕ) (b : Bits) (id : ℕ) → id < 2 → leads k xs b id ≡ (id == 1)
  unfolding leads
  leads_constant zero b id h = refl
  leads_constant (suc k) b id h = rw (chosen_constant b id h) (leads_constant k b id h)

  -- how many steps are taken is of no account, if they are as many as the Id
  pub steady : (k m : ℕ) (b : Bits) (id : ℕ) → id ≤ k → id ≤ m → id < length xs → leads k xs b id ≡ leads m xs b id
  unfolding leads
  steady zero m b id hk hm h = leads_constant zero b id (omega arith) ∙ sym (leads_constant m b id (omega arith))
  steady (suc k) zero b id hk hm h = leads_constant (suc k) b id (omega arith) ∙ sym (leads_constant zero b id (omega arith))
  steady (suc k) (suc m) b id hk hm h = elim (split id) [
    | inl z ↦ leads_constant (suc k) b id (omega arith) ∙ sym (leads_constant (suc m) b id (omega arith))
    | inr (inl z) ↦ leads_constant (suc k) b id (omega arith) ∙ sym (leads_constant (suc m) b id (omega arith))
    | inr (inr two) ↦ let l = chosen_before b id two h in
        steady k m b (chosen xs b id) (omega (arith, l)) (omega (arith, l)) (omega (arith, l))
  ]

  leads_next : (b : Bits) (id : ℕ) → leads (suc id) xs b id ≡ leads id xs b (chosen xs b id)
  unfolding leads
  leads_next b id = refl

  -- a node means what the child that the bits choose means
  pub means_chosen : (b : Bits) (id : ℕ) → id < length xs → means xs id b ≡ means xs (chosen xs b id) b
  unfolding means
  means_chosen b id h = elim (split id) [
    | inl z ↦ let e = chosen_constant b id (omega arith) in rw e refl
    | inr (inl z) ↦ let e = chosen_constant b id (omega arith) in rw e refl
    | inr (inr two) ↦ let l = chosen_before b id two h in
        steady id (suc id) b id (omega arith) (omega arith) h ∙ leads_next b id
        ∙ steady id (chosen xs b id) b (chosen xs b id) (omega (arith, l)) (omega arith) (omega (arith, l))
  ]

  pub means_false : (b : Bits) → means xs 0 b ≡ false
  unfolding means leads
  means_false b = refl

  pub means_true : (b : Bits) → means xs 1 b ≡ true
  unfolding means
  means_true b = leads_constant 1 b 1 (omega arith)

  -- the children of an Id stand on no earlier level
  pub chosen_below : (b : Bits) (id : ℕ) → id < length xs → level_of xs id ≤ level_of xs (chosen xs b id)
  chosen_below b id h = elim (split id) [
    | inl z ↦ let e = chosen_constant b id (omega arith) in rw e (omega arith)
    | inr (inl z) ↦ let e = chosen_constant b id (omega arith) in rw e (omega arith)
    | inr (inr two) ↦ let i = r.inner id two h in
        elim (b (at xs id).level) as (λ v. level_of xs id ≤ level_of xs (cond v (at xs id).hi (at xs id).lo))
        [ true ↦ omega (arith, i.hi_below) | false ↦ omega (arith, i.lo_below) ]
  ]

  -- bits of earlier levels are of no account
  leads_later : (k : ℕ) (b c : Bits) (id : ℕ) → id < length xs → ((l : ℕ) → level_of xs id ≤ l → b l ≡ c l) → leads k xs b id ≡ leads k xs c id
  unfolding leads
  leads_later zero b c id h agree = refl
  leads_later (suc k) b c id h agree =
      let same : chosen xs b id ≡ chosen xs c id = ap (λ v. cond v (at xs id).hi (at xs id).lo) (agree (level_of xs id) (omega arith)) in
      let low = chosen_below b id h in
      leads_later k b c (chosen xs b id) (chosen_known b id h) (λ l g. agree l (omega (arith, low, g))) ∙ ap (leads k xs c) same

  pub means_later : (b c : Bits) (id : ℕ) → id < length xs → ((l : ℕ) → level_of xs id ≤ l → b l ≡ c l) → means xs id b ≡ means xs id c
  unfolding means
  means_later b c id h agree = leads_later id b c id h agree

  -- what was known before means the same
  leads_grown : (ys : List Node) → GrowsTable xs ys → (k : ℕ) (b : Bits) (id : ℕ) → id < length xs → leads k ys b id ≡ leads k xs b id
  unfolding leads
  leads_grown ys g zero b id h = refl
  leads_grown ys g (suc k) b id h =
      let same : chosen ys b id ≡ chosen xs b id = ap (λ (n : Node). cond (b n.level) n.hi n.lo) (g.same id h) in
      ap (leads k ys b) same ∙ leads_grown ys g k b (chosen xs b id) (chosen_known b id h)

  pub means_grown : (ys : List Node) → GrowsTable xs ys → (b : Bits) (id : ℕ) → id < length xs → means ys id b ≡ means xs id b
  unfolding means
  means_grown ys g b id h = leads_grown ys g id b id h

pub level_grown : (xs ys : List Node) → GrowsTable xs ys → (id : ℕ) → id < length xs → level_of ys id ≡ level_of xs id
level_grown xs ys g id h = ap (λ (n : Node). n.level) (g.same id h)

pub keeps_grown : (xs ys : List Node) → IsReduced xs → GrowsTable xs ys → Keeps xs ys
keeps_grown xs ys r g = record { known = g.longer; meaning = λ id b h. means_grown xs r ys g b id h }

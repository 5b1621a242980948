-- In reduced tables an Id that means the same has the same node, so it reaches the same.
use Rattle.std.proofs.Common.{◌≡◌, ℕ, ◌<◌, ◌≤◌, Bool, true, false, cond, inl, inr, List, length, refl, sym, ◌∙◌, ap, arith}
use Rattle.std.proofs.lemmas.Bool.{eq-eqb, ne_eqb}
use Rattle.bdd_table.specs.declared.node.Node.{Node}
use Rattle.bdd_table.specs.Diagram.{node_of, at, level_of, put, IsReduced, GrowsTable, Keeps}
use Rattle.bdd_table.proofs.Meaning.{split}
use Rattle.bdd_table.proofs.Canonical.{half, half_known, means_put, canonical, order, level_bound}

half_at : (xs : List Node) (id l : ℕ) (v : Bool) → level_of xs id ≡ l → half xs id l v ≡ cond v (at xs id).hi (at xs id).lo
half_at xs id l v e = ap (λ (t : Bool). cond t (cond v (at xs id).hi (at xs id).lo) id) (eq-eqb (level_of xs id) l e)

half_off : (xs : List Node) (id l : ℕ) (v : Bool) → (level_of xs id ≡ l → ⊥) → half xs id l v ≡ id
half_off xs id l v ne = ap (λ (t : Bool). cond t (cond v (at xs id).hi (at xs id).lo) id) (ne_eqb (level_of xs id) l ne)

module _ (old new : List Node) (ro : IsReduced old) (rn : IsReduced new) (k : Keeps old new) where
  -- what is left of an Id where a level has a value is the same Id in both
  same_half : (id l : ℕ) (v : Bool) → id < length old → l < 4294967295 → l ≤ level_of old id → l ≤ level_of new id → half old id l v ≡ half new id l v
  same_half id l v known low ho hn =
      let more = k.known in
      let there : id < length new = omega (arith, more, known) in
      let a = half_known old ro l id v known low in
      let c = half_known new rn l id v there low in
      canonical new rn (half old id l v) (half new id l v) (omega (arith, a, there)) (omega (arith, c, there))
      (λ b. k.meaning (half old id l v) b (omega (arith, a, known)) ∙ sym (means_put old ro b l id v known low ho)
      ∙ sym (k.meaning id (put b l v) known) ∙ means_put new rn b l id v there low hn)

  inner_same : (id : ℕ) → 2 ≤ id → id < length old → at new id ≡ at old id
  inner_same id two known =
      let more = k.known in
      let there : id < length new = omega (arith, more, known) in
      let i = ro.inner id two known in
      let j = rn.inner id two there in
      let up = level_bound old ro (at old id).lo (let a = i.lo_before in omega (arith, a, known)) in
      let over = level_bound new rn (at new id).lo (let a = j.lo_before in omega (arith, a, there)) in
      let low : level_of old id < 4294967295 = (let a = i.lo_below in omega (arith, a, up)) in
      let deep : level_of new id < 4294967295 = (let a = j.lo_below in omega (arith, a, over)) in
      elim (order (level_of old id) (level_of new id)) [
        | inl lt ↦ (
            let e = sym (half_at old id (level_of old id) false refl)
            ∙ same_half id (level_of old id) false known low (omega arith) (omega (arith, lt))
            ∙ half_off new id (level_of old id) false (λ q. omega (arith, q, lt)) in
            let a = i.lo_before in
            absurd (omega (arith, e, a)))
        | inr (inr lt) ↦ (
            let e = sym (half_at new id (level_of new id) false refl)
            ∙ sym (same_half id (level_of new id) false known deep (omega (arith, lt)) (omega arith))
            ∙ half_off old id (level_of new id) false (λ q. omega (arith, q, lt)) in
            let a = j.lo_before in
            absurd (omega (arith, e, a)))
        | inr (inl e) ↦ (
            let child : (v : Bool) → cond v (at new id).hi (at new id).lo ≡ cond v (at old id).hi (at old id).lo =
            (λ v. sym (half_at new id (level_of old id) v (sym e))
            ∙ sym (same_half id (level_of old id) v known low (omega arith) (omega (arith, e)))
            ∙ half_at old id (level_of old id) v refl) in
            let lo = child false in
            let hi = child true in
            let same = sym e in
            λ q. node_of (same q) (lo q) (hi q))
      ]

  -- each Id that was known has the same node
  pub kept_grows : GrowsTable old new
  kept_grows = record {
    longer = k.known;
    same = λ id known. elim (split id) [
      | inl z ↦ ap (at new) z ∙ rn.of_false ∙ sym (ap (at old) z ∙ ro.of_false)
      | inr (inl z) ↦ ap (at new) z ∙ rn.of_true ∙ sym (ap (at old) z ∙ ro.of_true)
      | inr (inr two) ↦ inner_same id two known
    ];
  }

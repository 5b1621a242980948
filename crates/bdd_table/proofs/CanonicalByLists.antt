-- Ids that agree on all lists of bits are equal.
use Rattle.std.proofs.Common.{◌≡◌, ℕ, zero, suc, ◌<◌, ◌≤◌, ◌==◌, ◌↔◌, Bool, true, false, cond, inl, inr, List, [], ◌∷◌, length, refl, sym, ◌∙◌, ap, arith, get_or, eqb-true, eq-eqb}
use Rattle.bdd_table.specs.declared.node.Node.{Node}
use Rattle.bdd_table.specs.Diagram.{Bits, at, level_of, chosen, leads, means, IsReduced, as_bits}
use Rattle.bdd_table.proofs.Meaning.{split, leads_constant, chosen_known}
use Rattle.bdd_table.proofs.Canonical.{canonical, level_bound}

unfoldable pub tabulate : ℕ → Bits → List Bool
tabulate zero b = []
tabulate (suc n) b = b 0 ∷ tabulate n (λ l. b (suc l))

get_tabulate : (n : ℕ) (b : Bits) (l : ℕ) → l < n → get_or (tabulate n b) l false ≡ b l
unfolding tabulate
get_tabulate zero b l h = absurd (omega arith)
get_tabulate (suc n) b zero h = refl
get_tabulate (suc n) b (suc l) h = get_tabulate n (λ k. b (suc k)) l (omega arith)

module _ (xs : List Node) (r : IsReduced xs) (n : ℕ) (all : 4294967295 ≤ n) where
  leads_agree : (k : ℕ) (b c : Bits) (id : ℕ) → id < length xs → ((l : ℕ) → l < n → b l ≡ c l) → leads k xs b id ≡ leads k xs c id
  unfolding leads
  leads_agree zero b c id h agree = refl
  leads_agree (suc k) b c id h agree = elim (split id) [
    | inl z ↦ leads_constant xs r (suc k) b id (omega arith) ∙ sym (leads_constant xs r (suc k) c id (omega arith))
    | inr (inl z) ↦ leads_constant xs r (suc k) b id (omega arith) ∙ sym (leads_constant xs r (suc k) c id (omega arith))
    | inr (inr two) ↦ let i = r.inner id two h in
        let top = level_bound xs r (at xs id).lo (omega (arith, i.lo_before)) in
        let same : chosen xs b id ≡ chosen xs c id = ap (λ v. cond v (at xs id).hi (at xs id).lo)
        (agree (level_of xs id) (omega (arith, i.lo_below, top, all))) in
        leads_agree k b c (chosen xs b id) (chosen_known xs r b id h) agree ∙ ap (leads k xs c) same
  ]

  pub means_levels : (b c : Bits) (id : ℕ) → id < length xs → ((l : ℕ) → l < n → b l ≡ c l) → means xs id b ≡ means xs id c
  unfolding means
  means_levels b c id h agree = leads_agree id b c id h agree

  means_listed : (b : Bits) (id : ℕ) → id < length xs → means xs id b ≡ means xs id (as_bits (tabulate n b))
  unfolding means
  means_listed b id h = leads_agree id b (as_bits (tabulate n b)) id h (λ l k. sym (get_tabulate n b l k))

  pub canonical_by : (f g : ℕ) → f < length xs → g < length xs → ((bits : List Bool) → means xs f (as_bits bits) ≡ means xs g (as_bits bits)) → f ≡ g
  canonical_by f g kf kg same = canonical xs r f g kf kg (λ b. means_listed b f kf ∙ same (tabulate n b) ∙ sym (means_listed b g kg))

-- bits of the levels above the constants decide
pub means_agree : (xs : List Node) → IsReduced xs → (id : ℕ) → id < length xs → (b c : Bits)
    → ((l : ℕ) → l < 4294967295 → b l ≡ c l) → means xs id b ≡ means xs id c
means_agree xs r id h b c agree = means_levels xs r 4294967295 (omega arith) b c id h agree

pub canonical_lists : (xs : List Node) → IsReduced xs → (f g : ℕ) → f < length xs → g < length xs
    → ((bits : List Bool) → means xs f (as_bits bits) ≡ means xs g (as_bits bits)) → f ≡ g
canonical_lists xs r f g kf kg same = canonical_by xs r 4294967295 (omega arith) f g kf kg same

pub same_by_lists : (xs : List Node) → IsReduced xs → (f g : ℕ) → f < length xs → g < length xs → ((f == g) ≡ true)
    ↔ ((values : List Bool) → means xs f (as_bits values) ≡ means xs g (as_bits values))
same_by_lists xs r f g kf kg = (λ e values. ap (λ i. means xs i (as_bits values)) (eqb-true f g e), λ h. eq-eqb f g (canonical_lists xs r f g kf kg h))

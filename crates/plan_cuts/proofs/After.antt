-- A plan that extends an entry whose suffix grows is finished there or extends exactly one of its children.
use Rattle.std.proofs.Common.{◌≡◌, ℕ, ◌+◌, ◌-◌, ◌<◌, ◌≤◌, Bool, true, false, ◌&&◌, eqb, ◌⊎◌, inl, inr, List, [], ◌∷◌, ◌++◌, refl, sym, ◌∙◌, ap, subst, arith, eq-eqb}
use Rattle.std.proofs.lemmas.Bool.Decides.{nat_tests}
use Rattle.task_system.specs.System.{are_equal}
use Rattle.task_system.specs.System.{System, cost_in_system}
use Rattle.plan_cuts.specs.Counts.{one_if, begins, sum_over_operators}
use Rattle.plan_cuts.proofs.Sums.{sum_zero, sum_one, differ, alike}

same_test : (a b : ℕ) → eqb a b ≡ eqb b a
same_test a b = grind (arith, nat_tests)

kept_test : (w r c : ℕ) (ok : Bool) → (w + r ≡ c → ok ≡ true) → (ok ≡ true → w ≤ c) → (ok && eqb r (c - w)) ≡ eqb (w + r) c
kept_test w r c true there fits = let le : w ≤ c = fits refl in grind (arith, nat_tests)
kept_test w r c false there fits = sym (no (w + r) c (λ e. let f : false ≡ true = there e in cc))
  where
    no : (a b : ℕ) → (a ≡ b → ⊥) → eqb a b ≡ false
    no a b n = grind (arith, nat_tests)

module _ (y : System) (cost : ℕ) (ok : ℕ → Bool) where
  -- the child by k is there for each list that needs it, and its cost fits
  pub record Covers (r : List ℕ) : Type 0 where
    pub there : (k : ℕ) (q : List ℕ) → r ≡ k ∷ q → y.cost k + cost_in_system y q ≡ cost → ok k ≡ true
    pub fits : (k : ℕ) → ok k ≡ true → y.cost k ≤ cost
    pub number : (k : ℕ) (q : List ℕ) → r ≡ k ∷ q → k < y.operators

  abbrev pub part : List ℕ → ℕ → ℕ
  part r k = one_if (ok k && begins y (k ∷ []) (cost - y.cost k) r)

  no_child : (k : ℕ) → one_if (ok k && false) ≡ 0
  no_child k = elim_on (ok k)
    where
      elim_on : (b : Bool) → one_if (b && false) ≡ 0
      elim_on true = refl
      elim_on false = refl

  rest_splits : (r : List ℕ) → Covers r → one_if (eqb (cost_in_system y r) cost) ≡ one_if
      (are_equal r [] && eqb cost 0) + sum_over_operators y.operators (part r)
  rest_splits [] cov =
      let z : sum_over_operators y.operators (part []) ≡ 0 = sum_zero y.operators (part []) (λ k b. no_child k) in
      omega (arith, z, ap one_if (same_test 0 cost))
  rest_splits (a ∷ q) cov =
      let one : sum_over_operators y.operators (part (a ∷ q)) ≡ part (a ∷ q) a =
      sum_one y.operators a (part (a ∷ q)) (cov.number a q refl)
      (λ k b n. ap (λ (z : Bool). one_if (ok k && (z && eqb (cost_in_system y q) (cost - y.cost k))))
      (differ a k (λ e. n (sym e))) ∙ no_child k) in
      let this : part (a ∷ q) a ≡ one_if (ok a && eqb (cost_in_system y q) (cost - y.cost a)) =
      ap (λ (z : Bool). one_if (ok a && (z && eqb (cost_in_system y q) (cost - y.cost a)))) (alike a) in
      let all : one_if (ok a && eqb (cost_in_system y q) (cost - y.cost a)) ≡ one_if (eqb (y.cost a + cost_in_system y q) cost) =
      ap one_if (kept_test (y.cost a) (cost_in_system y q) cost (ok a) (cov.there a q refl) (cov.fits a)) in
      omega (arith, one, this, all)

  -- what the child by k counts
  abbrev pub after_child : List ℕ → List ℕ → ℕ → ℕ
  after_child ops p k = one_if (ok k && begins y (ops ++ k ∷ []) (cost - y.cost k) p)

  pub after_splits : (ops p : List ℕ) → ((r : List ℕ) → p ≡ ops ++ r → Covers r)
      → one_if (begins y ops cost p) ≡ one_if (are_equal p ops && eqb cost 0) + sum_over_operators y.operators (after_child ops p)
  after_splits [] p cov = rest_splits p (cov p refl)
  after_splits (o ∷ ops) [] cov = omega (arith, sum_zero y.operators (after_child (o ∷ ops) []) (λ k b. no_child k))
  after_splits (o ∷ ops) (a ∷ p) cov = elim (same_or a o) [
    | inl e ↦
        let ih = after_splits ops p (λ r is. cov r (ap (λ (x : List ℕ). a ∷ x) is ∙ ap (λ (x : ℕ). x ∷ (ops ++ r)) e)) in
        subst (λ (z : Bool). one_if (z && begins y ops cost p) ≡ one_if ((z && are_equal p ops) && eqb cost 0) + sum_over_operators
        y.operators (λ k. one_if (ok k && (z && begins y (ops ++ k ∷ []) (cost - y.cost k) p))))
        (sym (eq-eqb a o e)) ih
    | inr n ↦
        subst (λ (z : Bool). one_if (z && begins y ops cost p) ≡ one_if ((z && are_equal p ops) && eqb cost 0) + sum_over_operators
        y.operators (λ k. one_if (ok k && (z && begins y (ops ++ k ∷ []) (cost - y.cost k) p))))
        (sym (differ a o n)) (omega (
          arith,
          sum_zero y.operators (λ k. one_if (ok k && false))
              (λ k b. no_child k),
        ))
  ]
    where
      same_or : (a b : ℕ) → (a ≡ b) ⊎ (a ≡ b → ⊥)
      same_or a b = grind (arith, nat_tests)

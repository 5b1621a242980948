-- Numbers that are reached from others one to one are as many.
use Rattle.std.proofs.Common.{◌≡◌, ◌≢◌, ℕ, zero, suc, ◌+◌, ◌<◌, ◌≤◌, ◌==◌, true, false, inl, inr, cond, refl, sym, ◌∙◌, ap, arith, eqb-true, eq-eqb}
use Rattle.bdd_table.proofs.Canonical.{order}

-- how many of g 0, .., g (m - 1) are k
unfoldable count : (ℕ → ℕ) → ℕ → ℕ → ℕ
count g zero k = 0
count g (suc m) k = cond (g m == k) 1 0 + count g m k

-- the sum of these counts over k below n
unfoldable hits : (ℕ → ℕ) → ℕ → ℕ → ℕ
hits g m zero = 0
hits g m (suc n) = count g m n + hits g m n

differs : (a b : ℕ) → a ≢ b → (a == b) ≡ false
differs a b ne = (elim (a == b) as (λ t. (a == b) ≡ t → t ≡ false) [
  | true ↦ λ t. absurd (ne (eqb-true a b t))
  | false ↦ λ t. refl
]) refl

module _ (g : ℕ → ℕ) where
  hits_none : (n : ℕ) → hits g 0 n ≡ 0
  unfolding hits count
  hits_none zero = refl
  hits_none (suc n) = let h = hits_none n in omega arith

  hits_outside : (m n : ℕ) → n ≤ g m → hits g (suc m) n ≡ hits g m n
  unfolding hits count
  hits_outside m zero h = refl
  hits_outside m (suc n) h =
      let less = hits_outside m n (omega arith) in
      let e = differs (g m) n (λ e. omega arith) in
      rw e (omega (arith, less))

  hits_inside : (m n : ℕ) → g m < n → hits g (suc m) n ≡ suc (hits g m n)
  unfolding hits count
  hits_inside m zero h = absurd (omega arith)
  hits_inside m (suc n) h = elim (order (g m) n) [
    | inl a ↦ let less = hits_inside m n a in let e = differs (g m) n (λ e. omega arith) in rw e (omega (arith, less))
    | inr (inl a) ↦ let less = hits_outside m n (omega arith) in rw (eq-eqb (g m) n a) (omega (arith, less))
    | inr (inr a) ↦ absurd (omega arith)
  ]

  -- if all are below n, each is counted once
  hits_all : (m n : ℕ) → ((i : ℕ) → i < m → g i < n) → hits g m n ≡ m
  hits_all zero n below = hits_none n
  hits_all (suc m) n below = hits_inside m n (below m (omega arith)) ∙ ap suc (hits_all m n (λ i h. below i (omega arith)))

  count_none : (m k : ℕ) → ((i : ℕ) → i < m → g i ≢ k) → count g m k ≡ 0
  unfolding count
  count_none zero k not_there = refl
  count_none (suc m) k not_there = rw (differs (g m) k (not_there m (omega arith)))
      (let h = count_none m k (λ i l. not_there i (omega arith)) in omega (arith, h))

  count_one : (m k i : ℕ) → ((i j : ℕ) → i < m → j < m → g i ≡ g j → i ≡ j) → i < m → g i ≡ k → count g m k ≡ 1
  unfolding count
  count_one zero k i inj h e = absurd (omega arith)
  count_one (suc m) k i inj h e = elim (order i m) [
    | inl a ↦ let not_there : g m ≢ k = λ q. let s = inj i m (omega arith) (omega arith) (e ∙ sym q) in absurd (omega (arith, s)) in
        rw (differs (g m) k not_there) (let r = count_one m k i (λ x y hx hy. inj x y (omega arith) (omega arith)) a e in omega (arith, r))
    | inr (inl a) ↦ rw (eq-eqb (g m) k (sym (ap g a) ∙ e)) (let r = count_none m k
        (λ j l q. let s = inj j i (omega arith) (omega arith) (q ∙ sym e) in absurd (omega (arith, s))) in omega
        (arith, r))
    | inr (inr a) ↦ absurd (omega arith)
  ]

  hits_from_two : (m n : ℕ) → ((k : ℕ) → k < 2 → count g m k ≡ 0) → ((k : ℕ) → 2 ≤ k → k < n → count g m k ≡ 1) → 2 ≤ n → hits g m n + 2 ≡ n
  unfolding hits
  hits_from_two m zero none one h = absurd (omega arith)
  hits_from_two m (suc zero) none one h = absurd (omega arith)
  hits_from_two m (suc (suc zero)) none one h = let a = none 0 (omega arith) in let b = none 1 (omega arith) in omega (arith, a, b)
  hits_from_two m (suc (suc (suc n))) none one h =
      let r = hits_from_two m (suc (suc n)) none (λ k x y. one k x (omega arith)) (omega arith) in
      let b = one (suc (suc n)) (omega arith) (omega arith) in
      omega (arith, r, b)

  -- if they are the numbers from 2 to n, each once, there are n less 2
  pub as_many : (m n : ℕ) → 2 ≤ n → ((i : ℕ) → i < m → (2 ≤ g i) × (g i < n)) → ((i j : ℕ) → i < m → j < m → g i ≡ g j → i ≡ j)
      → ((k : ℕ) → 2 ≤ k → k < n → (i : ℕ) × (i < m) × (g i ≡ k)) → n ≡ m + 2
  as_many m n two within inj onto =
      let all = hits_all m n (λ i h. (within i h).1) in
      let sum = hits_from_two m n
      (λ k l. count_none m k (λ i h e. let w = (within i h).0 in absurd (omega (arith, w, e, l))))
      (λ k a b. let w = onto k a b in count_one m k w.0 inj w.1 w.2) two in
      omega (arith, all, sum)

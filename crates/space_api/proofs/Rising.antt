-- Rising numbers of a list: none of it lies between one and the next.
use Rattle.std.proofs.Common.{◌≡◌, ℕ, zero, suc, ◌+◌, ◌-◌, ◌<◌, ◌≤◌, ◌⊎◌, inl, inr, List, length, get_or, refl, sym, ◌∙◌, subst, arith}
use Rattle.std.specs.List.{Contains}
use Rattle.std.specs.List.Sorted.{IsStrictlyIncreasing}
use Rattle.std.proofs.lemmas.List.{get_or_default}

before_or : (a b : ℕ) → (a < b) ⊎ (b ≤ a)
before_or a b = grind arith

-- the numbers before place i are below m, and none from there on is
pub record IsPast (xs : List ℕ) (i m : ℕ) : Type 0 where
  pub below : (k : ℕ) → k < i → get_or xs k 0 < m
  pub above : (k : ℕ) → i ≤ k → k < length xs → m ≤ get_or xs k 0

pub past_none : (xs : List ℕ) → IsPast xs 0 0
past_none xs = record { below = λ k lt. absurd (omega (arith, lt)); above = λ k ge lt. omega arith }

-- what lies between isn't in the list
pub past_gap : (xs : List ℕ) (i m x : ℕ) → IsPast xs i m → m ≤ x → ((k : ℕ) → i ≤ k → k < length xs → x < get_or xs k 0) → ¬ Contains xs x
past_gap xs i m x p ge less (k, lt, at) =
    let here : get_or xs k 0 ≡ x = get_or_default xs k 0 x lt ∙ at in
    elim (before_or k i) [
      | inl before ↦ omega (arith, p.below k before, here, ge)
      | inr after ↦ omega (arith, less k after lt, here)
    ]

module _ (xs : List ℕ) (up : IsStrictlyIncreasing xs) where
  later : (k i j : ℕ) → j ≡ i + k + 1 → j < length xs → get_or xs i 0 < get_or xs j 0
  later zero i j e lt =
      let same : j ≡ i + 1 = omega (arith, e) in
      subst (λ (n : ℕ). get_or xs i 0 < get_or xs n 0) (sym same) (up i (omega (arith, same, lt)))
  later (suc k) i j e lt =
      let m : ℕ = i + k + 1 in
      let same : j ≡ m + 1 = omega (arith, e) in
      let step : get_or xs m 0 < get_or xs j 0 = subst (λ (n : ℕ). get_or xs m 0 < get_or xs n 0) (sym same) (up m (omega (arith, same, lt))) in
      let first : get_or xs i 0 < get_or xs m 0 = later k i m refl (omega (arith, same, lt)) in
      omega (arith, first, step)

  -- a number is less than each later one
  pub rises : (i j : ℕ) → i < j → j < length xs → get_or xs i 0 < get_or xs j 0
  rises i j less lt = later (j - (i + 1)) i j (omega (arith, less)) lt

  -- a number of the list that is less than the one at place i stands before it
  pub stands_before : (i k : ℕ) → i < length xs → get_or xs k 0 < get_or xs i 0 → k < length xs → k < i
  stands_before i k lt less in_list = elim (before_or k i) [
    | inl before ↦ before
    | inr after ↦ elim (before_or i k) [
      | inl strict ↦ absurd (let r = rises i k strict in_list in omega (arith, r, less))
      | inr rest ↦ absurd (let same : k ≡ i = omega (arith, after, rest) in
          let e : get_or xs i 0 < get_or xs i 0 = subst (λ (n : ℕ). get_or xs n 0 < get_or xs i 0) same
          less in omega (arith, e))
    ]
  ]

  -- one place on
  pub past_next : (i : ℕ) → i < length xs → IsPast xs (i + 1) (get_or xs i 0 + 1)
  past_next i lt = record {
    below = λ k less. elim (before_or k i) [
      | inl before ↦ (let r = rises k i before lt in omega (arith, r))
      | inr after ↦ (let same : i ≡ k = omega (arith, less, after) in subst (λ (n : ℕ). get_or xs k 0 < get_or xs n 0 + 1) (sym same) (omega arith))
    ];
    above = λ k ge in_list. let r = rises i k (omega (arith, ge)) in_list in omega (arith, r);
  }

  -- no number is less than an earlier one
  pub never_falls : (i j : ℕ) → i ≤ j → j < length xs → get_or xs i 0 ≤ get_or xs j 0
  never_falls i j le lt = elim (before_or i j) [
    | inl strict ↦ (let r = rises i j strict lt in omega (arith, r))
    | inr rest ↦ (let same : i ≡ j = omega (arith, le, rest) in subst (λ (n : ℕ). get_or xs i 0 ≤ get_or xs n 0) same (omega arith))
  ]

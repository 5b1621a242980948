-- Sums over operators.
use Rattle.std.proofs.Common.{◌≡◌, ℕ, zero, suc, ◌+◌, ◌<◌, Bool, true, false, ◌&&◌, eqb, ◌⊎◌, inl, inr, refl, sym, ap, arith, eq-eqb}
use Rattle.std.proofs.lemmas.Bool.Decides.{nat_tests}
use Rattle.plan_cuts.specs.Counts.{one_if, sum_over_operators}

pub sum_add : (n : ℕ) (f g : ℕ → ℕ) → sum_over_operators n (λ k. f k + g k) ≡ sum_over_operators n f + sum_over_operators n g
sum_add zero f g = refl
sum_add (suc n) f g = omega (arith, sum_add n f g)

pub sum_same : (n : ℕ) (f g : ℕ → ℕ) → ((k : ℕ) → k < n → f k ≡ g k) → sum_over_operators n f ≡ sum_over_operators n g
sum_same zero f g h = refl
sum_same (suc n) f g h = omega (arith, sum_same n f g (λ k b. h k (omega arith)), h n (omega arith))

pub sum_zero : (n : ℕ) (f : ℕ → ℕ) → ((k : ℕ) → k < n → f k ≡ 0) → sum_over_operators n f ≡ 0
sum_zero zero f h = refl
sum_zero (suc n) f h = omega (arith, sum_zero n f (λ k b. h k (omega arith)), h n (omega arith))

last_or : (m n : ℕ) → m < suc n → (m < n) ⊎ (m ≡ n)
last_or m n h = grind arith

-- one term alone isn't 0
pub sum_one : (n m : ℕ) (f : ℕ → ℕ) → m < n → ((k : ℕ) → k < n → (k ≡ m → ⊥) → f k ≡ 0) → sum_over_operators n f ≡ f m
sum_one zero m f h off = absurd (omega arith)
sum_one (suc n) m f h off = elim (last_or m n h) [
  | inl b ↦ omega (arith, sum_one n m f b (λ k c e. off k (omega arith) e), off n (omega arith) (λ e. omega arith))
  | inr e ↦ let z : sum_over_operators n f ≡ 0 = sum_zero n f (λ k b. off k (omega arith) (λ d. omega arith)) in
      let same : f n ≡ f m = ap f (sym e) in
      omega arith
]

pub differ : (a b : ℕ) → (a ≡ b → ⊥) → eqb a b ≡ false
differ a b n = grind (arith, nat_tests)

pub alike : (a : ℕ) → eqb a a ≡ true
alike a = eq-eqb a a refl

pub no_ind : (a b : Bool) → one_if (a && (b && false)) ≡ 0
no_ind true true = refl
no_ind true false = refl
no_ind false b = refl

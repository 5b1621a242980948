-- Of a prefix: a plan is the prefix itself or goes on by one operator.
use Rattle.std.proofs.Common.{◌≡◌, ℕ, zero, suc, ◌+◌, ◌<◌, Bool, true, false, ◌&&◌, eqb, ◌⊎◌, inl, inr, List, [], ◌∷◌, ◌++◌, refl, sym, ◌∙◌, ap, arith, eq-eqb}
use Rattle.std.proofs.lemmas.Bool.Decides.{nat_tests}
use Rattle.std.specs.List.{sum_by}
use Rattle.std.proofs.lemmas.List.Sums.{sum_by-cons}
use Rattle.task_system.specs.System.{State, System, RunsInSystem, cost_in_system, are_equal}
use Rattle.lazy_plans.specs.Queue.{prefix, ind, count, sum_ops, Replaced}

sum_zero : (n : ℕ) (f : ℕ → ℕ) → ((k : ℕ) → k < n → f k ≡ 0) → sum_ops n f ≡ 0
sum_zero zero f h = refl
sum_zero (suc n) f h = omega (arith, sum_zero n f (λ k b. h k (omega arith)), h n (omega arith))

last_or : (m n : ℕ) → m < suc n → (m < n) ⊎ (m ≡ n)
last_or m n h = grind arith

sum_one : (n m : ℕ) (f : ℕ → ℕ) → m < n → ((k : ℕ) → k < n → (k ≡ m → ⊥) → f k ≡ 0) → sum_ops n f ≡ f m
sum_one zero m f h off = absurd (omega arith)
sum_one (suc n) m f h off = elim (last_or m n h) [
  | inl b ↦ omega (arith, sum_one n m f b (λ k c e. off k (omega arith) e), off n (omega arith) (λ e. omega arith))
  | inr e ↦ let z : sum_ops n f ≡ 0 = sum_zero n f (λ k b. off k (omega arith) (λ d. omega arith)) in
      let same : f n ≡ f m = ap f (sym e) in
      omega arith
]

differ : (a b : ℕ) → (a ≡ b → ⊥) → eqb a b ≡ false
differ a b n = grind (arith, nat_tests)

pub decide : (a b : ℕ) → (a ≡ b) ⊎ (eqb a b ≡ false)
decide a b = grind (arith, nat_tests)

abbrev pub Below : ℕ → List ℕ → Type 0
Below n [] = Unit {0}
Below n (z ∷ p) = (z < n) × Below n p

pub splits : (n : ℕ) (e p : List ℕ) → Below n p → ind (prefix e p) ≡ ind (are_equal e p) + sum_ops n (λ op. ind (prefix (e ++ op ∷ []) p))
splits n [] [] b = omega (arith, sum_zero n (λ op. ind (prefix (op ∷ []) [])) (λ k c. refl))
splits n [] (z ∷ p) b =
    let f : ℕ → ℕ = (λ op. ind (eqb op z && true)) in
    let one : sum_ops n f ≡ f z = sum_one n z f b.0 (λ k c off. rw (differ k z off) refl) in
    let is : f z ≡ 1 = rw (eq-eqb z z refl) refl in
    omega (arith, one, is)
splits n (x ∷ e) [] b = omega (arith, sum_zero n (λ op. ind (prefix (x ∷ (e ++ op ∷ [])) [])) (λ k c. refl))
splits n (x ∷ e) (z ∷ p) b = elim (decide x z) [
  | inl is ↦ rw (eq-eqb x z is) (splits n e p b.1)
  | inr off ↦ let a : ind (prefix (x ∷ e) (z ∷ p)) ≡ 0 = rw off refl in
      let b : ind (are_equal (x ∷ e) (z ∷ p)) ≡ 0 = rw off refl in
      omega (arith, a, b, sum_zero n (λ op. ind (prefix (x ∷ (e ++ op ∷ [])) (z ∷ p))) (λ k c. rw off refl))
]

count_sum : (es : List (List ℕ)) (p : List ℕ) → count es p ≡ sum_by (λ e. ind (prefix e p)) es
count_sum [] p = refl
count_sum (e ∷ es) p = ap (λ (n : ℕ). ind (prefix e p) + n) (count_sum es p) ∙ sym (sum_by-cons (λ e. ind (prefix e p)) e es)

-- a turn counts as it sums
pub count_replaced : (old kids new : List (List ℕ)) (e p : List ℕ) → Replaced old kids e new → count old p + count kids p ≡ ind (prefix e p) + count new p
count_replaced old kids new e p r = omega (arith, r (λ e. ind (prefix e p)), count_sum old p, count_sum kids p, count_sum new p)

pub count_join : (es fs : List (List ℕ)) (p : List ℕ) → count (es ++ fs) p ≡ count es p + count fs p
count_join [] fs p = omega arith
count_join (e ∷ es) fs p = omega (arith, count_join es fs p)

both : (a b : Bool) → (a && b) ≡ true → (a ≡ true) × (b ≡ true)
both true true e = (refl, refl)
both true false e = cc
both false b e = cc

eq_of : (a b : ℕ) → eqb a b ≡ true → a ≡ b
eq_of a b e = grind (arith, nat_tests)

-- what follows the prefix
pub rest_of : (e p : List ℕ) → prefix e p ≡ true → (q : List ℕ) × (p ≡ e ++ q)
rest_of [] p h = (p, refl)
rest_of (x ∷ e) [] h = cc
rest_of (x ∷ e) (z ∷ p) h =
    let b = both (eqb x z) (prefix e p) h in
    let r = rest_of e p b.1 in
    (r.0, ap (λ (w : ℕ). w ∷ p) (sym (eq_of x z b.0)) ∙ ap (λ (w : List ℕ). x ∷ w) r.1)

pub below_of : (y : System) (p : List ℕ) (s t : State) → RunsInSystem y s p t → Below y.operators p
below_of y [] s t r = tt
below_of y (op ∷ p) s t r = (r.1.number, below_of y p r.0 t r.2)

pub cost_join : (y : System) (e q : List ℕ) → cost_in_system y (e ++ q) ≡ cost_in_system y e + cost_in_system y q
cost_join y [] q = omega arith
cost_join y (x ∷ e) q = omega (arith, cost_join y e q)

pub prefix_refl : (e : List ℕ) → prefix e e ≡ true
prefix_refl [] = refl
prefix_refl (x ∷ e) = rw (eq-eqb x x refl, prefix_refl e) refl

pub prefix_join : (e q : List ℕ) → prefix e (e ++ q) ≡ true
prefix_join [] q = refl
prefix_join (x ∷ e) q = rw (eq-eqb x x refl, prefix_join e q) refl

pub prefix_front : (e q r : List ℕ) → prefix e ((e ++ q) ++ r) ≡ true
prefix_front [] q r = refl
prefix_front (x ∷ e) q r = rw (eq-eqb x x refl, prefix_front e q r) refl

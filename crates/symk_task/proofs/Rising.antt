-- A rising list is told by how often each number stands in it.
use Rattle.std.proofs.Common.{◌≡◌, ℕ, suc, ◌+◌, ◌<◌, ◌≤◌, ◌↔◌, eqb, cond, inl, inr, List, [], ◌∷◌, refl, sym, ◌∙◌, ap, subst, arith, eq-eqb}
use Rattle.std.specs.List.{AllByRecursion, count_by}
use Rattle.std.specs.List.Sorted.{IsPermutation, IsNonDecreasing}
use Rattle.std.proofs.Math.Nat.{le_antisymm}
use Rattle.std.proofs.lemmas.Bool.{cases_eq, ne_eqb}
use Rattle.std.proofs.lemmas.List.Elements.{recursion_from_All}
use Rattle.std.proofs.lemmas.List.Sorted.{sum_by-IsPermutation}
use Rattle.std.proofs.lemmas.List.Sums.{sum_by-cons}

-- how often a stands in the list
abbrev pub count : ℕ → List ℕ → ℕ
count a p = count_by (λ b. eqb a b) p

count_cons : (a x : ℕ) (p : List ℕ) → count a (x ∷ p) ≡ cond (eqb a x) 1 0 + count a p
count_cons a x p = sum_by-cons (λ b. cond (eqb a b) 1 0) x p

here : (x : ℕ) (p : List ℕ) → count x (x ∷ p) ≡ 1 + count x p
here x p = count_cons x x p ∙ rw (eq-eqb x x refl) refl

other : (a x : ℕ) (p : List ℕ) → (a ≡ x → ⊥) → count a (x ∷ p) ≡ count a p
other a x p ne = count_cons a x p ∙ rw (ne_eqb a x ne) (omega arith)

-- each number is at most those after it
abbrev Rising : List ℕ → Type 0
Rising [] = Unit {0}
Rising (x ∷ xs) = AllByRecursion (λ y. x ≤ y) xs × Rising xs

rising_from : (xs : List ℕ) → IsNonDecreasing xs → Rising xs
rising_from [] up = tt
rising_from (x ∷ xs) up = (
  recursion_from_All (λ y. x ≤ y) xs (λ k d b. up 0 (suc k) d (omega arith) (omega arith)),
  rising_from xs (λ i j d le b. up (suc i) (suc j) d (omega arith) (omega arith)),
)

least : (x y : ℕ) (ys : List ℕ) → AllByRecursion (λ z. x ≤ z) ys → 0 < count y ys → x ≤ y
least x y [] all some = absurd (omega arith)
least x y (z ∷ ys) all some = elim (cases_eq y z) [
  | inl is ↦ subst (λ (w : ℕ). x ≤ w) (sym is) all.0
  | inr off ↦ least x y ys all.1 (let e = other y z ys off in omega (arith, e, some))
]

first_le : (x y : ℕ) (ys : List ℕ) → AllByRecursion (λ z. x ≤ z) ys → 0 < count y (x ∷ ys) → x ≤ y
first_le x y ys all some = elim (cases_eq y x) [
  | inl is ↦ omega (arith, is)
  | inr off ↦ least x y ys all (let e = other y x ys off in omega (arith, e, some))
]

rest : (x a : ℕ) (p q : List ℕ) → count a (x ∷ p) ≡ count a (x ∷ q) → count a p ≡ count a q
rest x a p q h = (let l = count_cons a x p in let r = count_cons a x q in omega (arith, l, r, h))

one_rising : (p q : List ℕ) → Rising p → Rising q → ((a : ℕ) → count a p ≡ count a q) → p ≡ q
one_rising [] [] up vp h = refl
one_rising [] (y ∷ q) up vp h = (let k = h y in let e = here y q in absurd (omega (arith, k, e)))
one_rising (x ∷ p) [] up vp h = (let k = h x in let e = here x p in absurd (omega (arith, k, e)))
one_rising (x ∷ p) (y ∷ q) up vp h =
    let a : x ≤ y = first_le x y p up.0 (let k = h y in let e = here y q in omega (arith, k, e)) in
    let b : y ≤ x = first_le y x q vp.0 (let k = h x in let e = here x p in omega (arith, k, e)) in
    let same : x ≡ y = le_antisymm a b in
    let tails : (z : ℕ) → count z p ≡ count z q = (λ z. rest y z p q (ap (λ (w : ℕ). count z (w ∷ p)) (sym same) ∙ h z)) in
    ap (λ (z : ℕ). z ∷ p) same ∙ ap (λ (z : List ℕ). y ∷ z) (one_rising p q up.1 vp.1 tails)

moved : (a : ℕ) (p r : List ℕ) → IsPermutation p r → count a r ≡ count a p
moved a p r h = sum_by-IsPermutation (λ b. cond (eqb a b) 1 0) p r h

-- two lists hold each number equally often exactly where they are one list once sorted
pub sorted_same : (p q r s : List ℕ) → IsPermutation p r → IsPermutation q s → IsNonDecreasing r → IsNonDecreasing s
    → (r ≡ s) ↔ ((a : ℕ) → count_by (λ b. eqb a b) p ≡ count_by (λ b. eqb a b) q)
sorted_same p q r s left right up vp = (
  (λ e a. sym (moved a p r left) ∙ ap (count a) e ∙ moved a q s right),
  (λ h. one_rising r s (rising_from r up) (rising_from s vp) (λ a. moved a p r left ∙ h a ∙ sym (moved a q s right))),
)

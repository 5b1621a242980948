-- Sums over a rising list of operators.
use Rattle.std.proofs.Common.{◌≡◌, ℕ, zero, suc, ◌+◌, ◌<◌, ◌⊎◌, inl, inr, Bool, eqb, cond, List, [], ◌∷◌, length, get_or, refl, sym, ◌∙◌, ap, subst, arith, eq-eqb}
use Rattle.std.specs.List.{All, AllPairs, Contains}
use Rattle.std.specs.List.Sorted.{IsStrictlyIncreasing}
use Rattle.std.proofs.lemmas.Bool.Decides.{eqb_tells}
use Rattle.std.proofs.lemmas.List.Kept.{AllPairs-from_increasing}
use Rattle.std.proofs.lemmas.List.Elements.{All-head, All-tail}
use Rattle.plan_cuts.specs.Counts.{sum_over_operators}
use Rattle.plan_cuts.specs.Growing.{sum_list, IsIn}
use Rattle.plan_cuts.proofs.Sums.{sum_add, sum_same, sum_zero, sum_one}

-- an operator stands in the list or not
in_told : (ks : List ℕ) (k : ℕ) → IsIn ks k ⊎ ¬ IsIn ks k
in_told [] k = inr (λ h. h)
in_told (i ∷ ks) k = elim (eqb_tells i k) [
  | inl e ↦ inl (inl e.1)
  | inr n ↦ elim (in_told ks k) [ inl h ↦ inl (inr h) | inr off ↦ inr (λ h. elim h [ inl e ↦ n.1 e | inr t ↦ off t ]) ]
]

of_contains : (ks : List ℕ) (k i : ℕ) → i < length ks → get_or ks i k ≡ k → IsIn ks k
of_contains [] k i lt e = absurd (omega (arith, lt))
of_contains (x ∷ ks) k zero lt e = inl e
of_contains (x ∷ ks) k (suc i) lt e = inr (of_contains ks k i (omega (arith, lt)) e)

to_contains : (ks : List ℕ) (k : ℕ) → IsIn ks k → Contains ks k
to_contains [] k h = absurd h
to_contains (x ∷ ks) k (inl e) = (0, omega arith, e)
to_contains (x ∷ ks) k (inr h) = let c = to_contains ks k h in (suc c.0, omega (arith, c.1), c.2)

pub in_or_not : (ks : List ℕ) (k : ℕ) → IsIn ks k ⊎ ¬ Contains ks k
in_or_not ks k = elim (in_told ks k) [ inl h ↦ inl h | inr off ↦ inr (λ c. off (of_contains ks k c.0 c.1 c.2)) ]

-- the term of k, if it stands in the list
abbrev one_of : List ℕ → (ℕ → ℕ) → ℕ → ℕ
one_of [] f k = 0
one_of (i ∷ ks) f k = cond (eqb i k) (f k) 0 + one_of ks f k

not_in : (ks : List ℕ) (f : ℕ → ℕ) (k : ℕ) → ¬ IsIn ks k → one_of ks f k ≡ 0
not_in [] f k off = refl
not_in (i ∷ ks) f k off = elim (eqb_tells i k) [
  | inl e ↦ absurd (off (inl e.1))
  | inr n ↦ omega (arith, ap (λ (b : Bool). cond b (f k) 0) n.0, not_in ks f k (λ h. off (inr h)))
]

-- no operator stands there twice
abbrev Once : List ℕ → Type 0
Once [] = Unit {0}
Once (k ∷ ks) = ¬ IsIn ks k × Once ks

once : (ks : List ℕ) → AllPairs (λ x y. x < y) ks → Once ks
once [] p = tt
once (k ∷ ks) p = (
  (λ h. let c = to_contains ks k h in omega (arith, p 0 (suc c.0) k (omega arith) (omega (arith, c.1)), c.2)),
  once ks (λ i j d lt at. p (suc i) (suc j) d (omega (arith, lt)) (omega (arith, at))),
)

in_once : (ks : List ℕ) (f : ℕ → ℕ) (k : ℕ) → Once ks → IsIn ks k → one_of ks f k ≡ f k
in_once [] f k o h = absurd h
in_once (i ∷ ks) f k o (inl e) =
    omega (arith, ap (λ (b : Bool). cond b (f k) 0) (eq-eqb i k e), not_in ks f k (subst (λ (x : ℕ). ¬ IsIn ks x) e o.0))
in_once (i ∷ ks) f k o (inr h) = elim (eqb_tells i k) [
  | inl e ↦ absurd (o.0 (subst (λ (x : ℕ). IsIn ks x) (sym e.1) h))
  | inr n ↦ omega (arith, ap (λ (b : Bool). cond b (f k) 0) n.0, in_once ks f k o.1 h)
]

-- the sum over a list, operator by operator
sum_by_one : (n : ℕ) (ks : List ℕ) (f : ℕ → ℕ) → All (λ k. k < n) ks → sum_list ks f ≡ sum_over_operators n (one_of ks f)
sum_by_one n [] f r = sym (sum_zero n (one_of [] f) (λ k b. refl))
sum_by_one n (i ∷ ks) f r =
    let term : ℕ → ℕ = λ k. cond (eqb i k) (f k) 0 in
    let off : (k : ℕ) → k < n → (k ≡ i → ⊥) → term k ≡ 0 = λ k b ne. elim (eqb_tells i k)
    [ inl e ↦ absurd (ne (sym e.1)) | inr m ↦ ap (λ (t : Bool). cond t (f k) 0) m.0 ] in
    let one : sum_over_operators n term ≡ term i = sum_one n i term (All-head (λ k. k < n) i ks r) off in
    let here : term i ≡ f i = ap (λ (t : Bool). cond t (f i) 0) (eq-eqb i i refl) in
    let both : sum_over_operators n (one_of (i ∷ ks) f) ≡ sum_over_operators n term + sum_over_operators n (one_of ks f) = sum_add n term (one_of ks f) in
    omega (arith, one, here, both, sum_by_one n ks f (All-tail (λ k. k < n) i ks r))

-- the sum over a rising list is that over all operators, where the terms of the others are 0
pub sum_rising : (n : ℕ) (ks : List ℕ) (f : ℕ → ℕ) → IsStrictlyIncreasing ks → All (λ k. k < n) ks
    → ((k : ℕ) → k < n → ¬ Contains ks k → f k ≡ 0) → sum_list ks f ≡ sum_over_operators n f
sum_rising n ks f rising range others =
    let o = once ks (AllPairs-from_increasing ks rising) in
    sum_by_one n ks f range ∙ sum_same n (one_of ks f) f (λ k b. elim (in_told ks k) [
      | inl h ↦ in_once ks f k o h
      | inr off ↦ not_in ks f k off ∙ sym (others k b (λ c. off (of_contains ks k c.0 c.1 c.2)))
    ])

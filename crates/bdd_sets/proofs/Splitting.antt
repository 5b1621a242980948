-- A number with its highest bit beside the others.
use Rattle.std.proofs.Common.{◌≡◌, ℕ, zero, suc, ◌+◌, ◌-◌, ◌*◌, ◌^◌, ◌<◌, ◌&&◌, ◌||◌, Bool, true, false, not, cond, leb, eqb, inl, inr, refl, sym, ◌∙◌, ap, arith}
use Rattle.std.proofs.lemmas.Bool.{leb-true, leb-false, le-leb, lt-leb, eq-eqb, ne_eqb, cases_eq, cases_lt}
use Rattle.bdd_table.specs.Diagram.{Bits}
use Rattle.var_order.specs.Layout.{level_at}
use Rattle.var_order.specs.Codes.{number}
use Rattle.var_order.proofs.Spelling.{number_more, number_below}
use Rattle.bdd_sets.specs.Splits.{IsSplit}

abbrev digit : Bool → ℕ
digit t = cond t 1 0

-- where the bits agree with those of the value: the first does, and so do the others
same_number : (t u : Bool) (m n value : ℕ) → leb m value ≡ u → n < m → eqb (digit t * m + n) value ≡ (cond u t (not t) && eqb n (cond u (value - m) value))
same_number true true m n value is lt = (let le = leb-true m value is in elim (cases_eq n (value - m)) [
  | inl e ↦ eq-eqb (1 * m + n) value (omega (arith, e, le)) ∙ sym (eq-eqb n (value - m) e)
  | inr ne ↦ (let ne2 : n ≡ value - m → ⊥ = ne in ne_eqb (1 * m + n) value (λ e. ne2 (omega (arith, e))) ∙ sym (ne_eqb n (value - m) ne2))
])
same_number true false m n value is lt = (let above = leb-false m value is in ne_eqb (1 * m + n) value (λ e. omega (arith, e, above)))
same_number false true m n value is lt = (let le = leb-true m value is in ne_eqb (0 * m + n) value (λ e. omega (arith, e, le, lt)))
same_number false false m n value is lt = ap (λ (x : ℕ). eqb x value) (let e : 0 * m + n ≡ n = omega arith in e)

-- where the bits spell at most the bound
least_number : (t u : Bool) (m n most : ℕ) → leb m most ≡ u → n < m
    → leb (digit t * m + n) most ≡ cond u (not t || leb n (cond u (most - m) most))
    (not t && leb n (cond u (most - m) most))
least_number true true m n most is lt = (let le = leb-true m most is in elim (cases_lt (most - m) n) [
  | inl over ↦ lt-leb (1 * m + n) most (omega (arith, over, le)) ∙ sym (lt-leb n (most - m) over)
  | inr under ↦ le-leb (1 * m + n) most (omega (arith, under, le)) ∙ sym (le-leb n (most - m) under)
])
least_number true false m n most is lt = (let above = leb-false m most is in lt-leb (1 * m + n) most (omega (arith, above)))
least_number false true m n most is lt = (let le = leb-true m most is in le-leb (0 * m + n) most (omega (arith, le, lt)))
least_number false false m n most is lt = ap (λ (x : ℕ). leb x most) (let e : 0 * m + n ≡ n = omega arith in e)

pub number_none : (b : Bits) (next p w : ℕ) → w ≡ 0 → number b next p w ≡ 0
unfolding number
number_none b next p zero e = refl
number_none b next p (suc w) e = absurd (omega (arith, e))

-- the number of one bit more
number_one_more : (b : Bits) (next p w below : ℕ) → w ≡ below + 1 → number b next p w ≡ digit (b (level_at next p)) * 2 ^ below + number b next (p + 1) below
number_one_more b next p w below e = ap (number b next p) (let f : w ≡ suc below = omega (arith, e) in f) ∙ number_more b next p below

pub value_split : (b : Bits) (next p w below value : ℕ) (bit : Bool) (rest : ℕ) → w ≡ below + 1 → IsSplit below value bit rest
    → (cond bit (b (level_at next p)) (not (b (level_at next p))) && eqb (number b next (p + 1) below) rest) ≡ eqb (number b next p w) value
value_split b next p w below value bit rest e split =
    let t = b (level_at next p) in
    let n = number b next (p + 1) below in
    let u = leb (2 ^ below) value in
    ap (λ (v : Bool). cond v t (not t) && eqb n rest) split.highest
    ∙ ap (λ (x : ℕ). cond u t (not t) && eqb n x) split.left
    ∙ sym (same_number t u (2 ^ below) n value refl (number_below b next (p + 1) below))
    ∙ ap (λ (x : ℕ). eqb x value) (sym (number_one_more b next p w below e))

pub most_split : (b : Bits) (next p w below most : ℕ) (bit : Bool) (rest : ℕ) → w ≡ below + 1 → IsSplit below most bit rest
    → cond bit (not (b (level_at next p)) || leb (number b next (p + 1) below) rest)
    (not (b (level_at next p)) && leb (number b next (p + 1) below) rest) ≡ leb (number b next p w) most
most_split b next p w below most bit rest e split =
    let t = b (level_at next p) in
    let n = number b next (p + 1) below in
    let u = leb (2 ^ below) most in
    ap (λ (v : Bool). cond v (not t || leb n rest) (not t && leb n rest)) split.highest
    ∙ ap (λ (x : ℕ). cond u (not t || leb n x) (not t && leb n x)) split.left
    ∙ sym (least_number t u (2 ^ below) n most refl (number_below b next (p + 1) below))
    ∙ ap (λ (x : ℕ). leb x most) (sym (number_one_more b next p w below e))

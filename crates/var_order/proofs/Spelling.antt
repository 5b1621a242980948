-- Bits and the number that they spell.
use Rattle.std.proofs.Common.{◌≡◌, ℕ, zero, suc, ◌+◌, ◌-◌, ◌*◌, ◌^◌, ◌<◌, Bool, true, false, cond, refl, sym, ◌∙◌, ap, subst, arith}
use Rattle.std.specs.Int.{bit_at}
use Rattle.std.proofs.Math.Nat.{pow-succ'}
use Rattle.std.proofs.lemmas.Nat.Bits.{bit_at_cat_low, bit_at_cat_high, same_from_bits_below}
use Rattle.var_order.specs.Layout.{level_at}
use Rattle.var_order.specs.Codes.{number}

-- what a bit adds, as a product
abbrev digit : Bool → ℕ
digit b = cond b 1 0

digit_power : (b : Bool) (w : ℕ) → cond b (2 ^ w) 0 ≡ digit b * 2 ^ w
digit_power true w = omega arith
digit_power false w = omega arith

digit_at : (b : Bool) → bit_at (digit b) 0 ≡ digit b
digit_at true = refl
digit_at false = refl

pub number_more : (b : ℕ → Bool) (next p w : ℕ) → number b next p (suc w) ≡ digit (b (level_at next p)) * 2 ^ w + number b next (p + 1) w
unfolding number
number_more b next p w = ap (λ (x : ℕ). x + number b next (p + 1) w) (digit_power (b (level_at next p)) w)

below_twice : (b : Bool) (m n : ℕ) → n < m → digit b * m + n < 2 * m
below_twice true m n h = omega (arith, h)
below_twice false m n h = omega (arith, h)

-- so many bits spell no larger number
pub number_below : (b : ℕ → Bool) (next p w : ℕ) → number b next p w < 2 ^ w
unfolding number
number_below b next p zero = omega arith
number_below b next p (suc w) =
    let ih = below_twice (b (level_at next p)) (2 ^ w) (number b next (p + 1) w) (number_below b next (p + 1) w) in
    let e = number_more b next p w in
    let f = pow-succ' 2 w in
    omega (arith, ih, e, f)

-- equal bits spell equal numbers
pub number_same : (b c : ℕ → Bool) (m n w p : ℕ) → ((k : ℕ) → k < w → b (level_at m (p + k)) ≡ c (level_at n (p + k))) → number b m p w ≡ number c n p w
unfolding number
number_same b c m n zero p h = refl
number_same b c m n (suc w) p h =
    let here : b (level_at m p) ≡ c (level_at n p) = subst (λ (q : ℕ). b (level_at m q) ≡ c (level_at n q))
    (let e : p + 0 ≡ p = omega arith in e) (h 0 (omega arith)) in
    let rest = number_same b c m n w (p + 1) (λ k lt. subst (λ (q : ℕ). b (level_at m q) ≡ c (level_at n q))
    (let e : p + suc k ≡ (p + 1) + k = omega arith in e) (h (suc k) (omega (arith, lt)))) in
    ap (λ (t : Bool). cond t (2 ^ w) 0 + number b m (p + 1) w) here ∙ ap (λ (x : ℕ). cond (c (level_at n p)) (2 ^ w) 0 + x) rest

-- each bit is a digit of the number, the highest first
pub bit_number : (b : ℕ → Bool) (next w p i : ℕ) → i < w → bit_at (number b next p w) (w - 1 - i) ≡ digit (b (level_at next (p + i)))
bit_number b next zero p i lt = absurd (omega (arith, lt))
bit_number b next (suc w) p zero lt =
    ap (λ (x : ℕ). bit_at x (suc w - 1 - 0)) (number_more b next p w)
    ∙ ap (bit_at (digit (b (level_at next p)) * 2 ^ w + number b next (p + 1) w)) (let e : suc w - 1 - 0 ≡ w = omega arith in e)
    ∙ bit_at_cat_high (digit (b (level_at next p))) w (number b next (p + 1) w) w (number_below b next (p + 1) w) (omega arith)
    ∙ ap (bit_at (digit (b (level_at next p)))) (let e : w - w ≡ 0 = omega arith in e)
    ∙ digit_at (b (level_at next p))
    ∙ ap (λ (q : ℕ). digit (b (level_at next q))) (let e : p ≡ p + 0 = omega arith in e)
bit_number b next (suc w) p (suc i) lt =
    ap (λ (x : ℕ). bit_at x (suc w - 1 - suc i)) (number_more b next p w)
    ∙ bit_at_cat_low (digit (b (level_at next p))) w (number b next (p + 1) w) (suc w - 1 - suc i) (omega (arith, lt))
    ∙ ap (bit_at (number b next (p + 1) w)) (let e : suc w - 1 - suc i ≡ w - 1 - i = omega arith in e)
    ∙ bit_number b next w (p + 1) i (omega (arith, lt))
    ∙ ap (λ (q : ℕ). digit (b (level_at next q))) (let e : (p + 1) + i ≡ p + suc i = omega arith in e)

-- bits that are the digits of a number spell it
pub number_digits : (b : ℕ → Bool) (next w p x : ℕ) → x < 2 ^ w
    → ((i : ℕ) → i < w → digit (b (level_at next (p + i))) ≡ bit_at x (w - 1 - i)) → number b next p w ≡ x
number_digits b next w p x lt h = same_from_bits_below w (number b next p w) x (number_below b next p w) lt (λ j below.
    let e : w - 1 - (w - 1 - j) ≡ j = omega (arith, below) in
    let at : w - 1 - j < w = omega (arith, below) in
    ap (bit_at (number b next p w)) (sym e) ∙ bit_number b next w p (w - 1 - j) at ∙ h (w - 1 - j) at ∙ ap (bit_at x) e)

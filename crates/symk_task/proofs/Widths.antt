-- The width of n is the least b with n at most 2 ^ b.
use Rattle.std.proofs.Common.{◌≡◌, ℕ, zero, suc, ◌+◌, ◌*◌, ◌^◌, ◌%◌, ◌<◌, ◌≤◌, inl, inr, Bool, true, false, cond, leb, refl, sym, subst, ◌∙◌, arith}
use Rattle.std.proofs.Math.Nat.{pow-succ', mod-eq_of_lt, le_antisymm}
use Rattle.std.proofs.Math.Pow.{pow-lt, pow_pos}
use Rattle.std.proofs.lemmas.Bool.{leb-true, leb-false, cases_lt}
use Rattle.symk_task.specs.Variables.{doublings, width}

below_power : (n : ℕ) → n ≤ 2 ^ n
below_power zero = omega arith
below_power (suc n) =
    let ih = below_power n in
    let doubled = pow-succ' 2 n in
    let some = pow_pos n in
    omega (arith, ih, doubled, some)

at_power : (n i j : ℕ) → i ≡ j → n ≤ 2 ^ i → n ≤ 2 ^ j
at_power n i j e h = subst (λ (k : ℕ). n ≤ 2 ^ k) e h

-- with enough doublings the power reaches n
enough : (most b n : ℕ) → n ≤ 2 ^ (b + most) → n ≤ 2 ^ (b + doublings most (2 ^ b) n)
unfolding doublings
enough zero b n h = h
enough (suc most) b n h =
    go (leb n (2 ^ b)) refl (enough most (suc b) n (at_power n (b + suc most) (suc b + most) (omega arith) h))
  where
    go : (t : Bool) → leb n (2 ^ b) ≡ t → n ≤ 2 ^ (suc b + doublings most (2 ^ suc b) n) → n ≤ 2 ^ (b + cond t 0 (doublings most (2 * 2 ^ b) n + 1))
    go true is ih = at_power n b (b + 0) (omega arith) (leb-true n (2 ^ b) is)
    go false is ih =
        let ih2 : n ≤ 2 ^ (suc b + doublings most (2 * 2 ^ b) n) = subst (λ (p : ℕ). n ≤ 2 ^ (suc b + doublings most p n)) (pow-succ' 2 b) ih in
        at_power n (suc b + doublings most (2 * 2 ^ b) n) (b + (doublings most (2 * 2 ^ b) n + 1)) (omega arith) ih2

-- no more doublings than it takes
fewest : (most b c n : ℕ) → n ≤ 2 ^ (b + c) → doublings most (2 ^ b) n ≤ c
unfolding doublings
fewest zero b c n h = omega arith
fewest (suc most) b c n h = go (leb n (2 ^ b)) refl c h (λ d k. fewest most (suc b) d n k)
  where
    go : (t : Bool) → leb n (2 ^ b) ≡ t → (c : ℕ) → n ≤ 2 ^ (b + c)
        → ((d : ℕ) → n ≤ 2 ^ (suc b + d) → doublings most (2 ^ suc b) n ≤ d)
        → cond t 0 (doublings most (2 * 2 ^ b) n + 1) ≤ c
    go true is c h ih = omega arith
    go false is zero h ih = (let above = leb-false n (2 ^ b) is in let low = at_power n (b + 0) b (omega arith) h in absurd (omega (arith, above, low)))
    go false is (suc c) h ih =
        let few = ih c (at_power n (b + suc c) (suc b + c) (omega arith) h) in
        let few2 : doublings most (2 * 2 ^ b) n ≤ c = subst (λ (p : ℕ). doublings most p n ≤ c) (pow-succ' 2 b) few in
        omega (arith, few2)

-- so many bits tell n values apart
pub width_enough : (n : ℕ) → n ≤ 2 ^ width n
unfolding width
width_enough n = at_power n (0 + doublings n 1 n) (doublings n 1 n) (omega arith) (enough n 0 n (at_power n n (0 + n) (omega arith) (below_power n)))

-- fewer bits do not
pub width_least : (n b : ℕ) → n ≤ 2 ^ b → width n ≤ b
unfolding width
width_least n b h = fewest n 0 b n (at_power n b (0 + b) (omega arith) h)

-- the first power that n doesn't pass
pub width_is : (n b : ℕ) → n ≤ 2 ^ b → ((k : ℕ) → k < b → 2 ^ k < n) → b ≡ width n
width_is n b within before = elim (cases_lt (width n) b) [
  | inl lt ↦ (let over = before (width n) lt in let far = width_enough n in absurd (omega (arith, over, far)))
  | inr le ↦ le_antisymm le (width_least n b within)
]

-- where n passes each power below 2 ^ 64, and not that one
pub far_width : (n b : ℕ) → b ≡ 64 → n ≤ 2 ^ 64 → ((k : ℕ) → k < b → 2 ^ k < n) → 64 ≡ width n
far_width n b e within before = sym e ∙ width_is n b (at_power n 64 b (sym e) within) before

-- how the code writes a power
pub shifted : (b : ℕ) → b < 64 → 1 * 2 ^ b % 18446744073709551616 ≡ 2 ^ b
shifted b lt = (let h : 2 ^ b < 2 ^ 64 = pow-lt lt in let k : 1 * 2 ^ b < 18446744073709551616 = omega (arith, h) in mod-eq_of_lt k ∙ omega arith)

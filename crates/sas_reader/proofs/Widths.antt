-- How many bits tell values apart, counted up.
use Rattle.std.proofs.Common.{◌≡◌, ℕ, zero, suc, ◌+◌, ◌-◌, ◌*◌, ◌<◌, ◌≤◌, true, false, nat_le, refl, arith}
use Rattle.std.proofs.lemmas.Bool.Decides.{nat_tests}
use Rattle.symk_task.specs.Variables.{doublings, width}

pub width_begins : (n : ℕ) → 0 + doublings (n - 0) 1 n ≡ width n
unfolding width
width_begins n = (let e : n - 0 ≡ n = omega arith in rw e (omega arith))

pub width_goes_on : (n bits power : ℕ) → power < n → bits < power → bits + doublings (n - bits) power n ≡ width n
    → (bits + 1) + doublings (n - (bits + 1)) (power * 2) n ≡ width n
unfolding doublings
width_goes_on n bits power more few so_far =
    let k : n - bits ≡ suc (n - (bits + 1)) = omega arith in
    let t : nat_le n power ≡ false = grind (arith, nat_tests) in
    let twice : power * 2 ≡ 2 * power = omega arith in
    let one : doublings (n - bits) power n ≡ doublings (n - (bits + 1)) (2 * power) n + 1 = rw (k, t) refl in
    rw twice (omega arith)

none_left : (most power n : ℕ) → n ≤ power → doublings most power n ≡ 0
unfolding doublings
none_left zero power n enough = refl
none_left (suc most) power n enough = (let t : nat_le n power ≡ true = grind (arith, nat_tests) in rw t refl)

pub width_is : (n bits power : ℕ) → n ≤ power → bits + doublings (n - bits) power n ≡ width n → bits ≡ width n
width_is n bits power enough so_far = (let e = none_left (n - bits) power n enough in omega arith)

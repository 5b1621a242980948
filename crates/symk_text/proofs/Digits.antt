-- Digits, and what they spell.
use Rattle.std.proofs.Common.{◌≡◌, ℕ, ◌+◌, ◌-◌, ◌*◌, ◌^◌, ◌<◌, ◌≤◌, true, false, nat_lt, if◌then◌else◌, Some, None, List, [], ◌∷◌, length, get_or, take, drop, refl, sym, ap, ◌∙◌, arith, length-take}
use Rattle.std.proofs.lemmas.List.{get_or-take, drop_more, drop_all}
use Rattle.std.proofs.lemmas.List.Elements.{All-from_get_or}
use Rattle.std.proofs.lemmas.Bool.Decides.{nat_tests}
use Rattle.std.proofs.lemmas.List.Sums.{prefix_len_is}
use Rattle.std.specs.List.{fold, take_while, All}
use Rattle.std.specs.Char.{is_ascii_digit, IsAsciiDigit}
use Rattle.symk_text.specs.Numbers.{value_of}

pub run_is : (bytes : List ℕ) (at : ℕ) → at ≤ length bytes → ((k : ℕ) → k < at → is_ascii_digit (get_or bytes k 0)
    ≡ true) → (at < length bytes → is_ascii_digit (get_or bytes at 0) ≡ false)
    → take at bytes ≡ take_while is_ascii_digit bytes
run_is bytes at le below here = ap (λ (n : ℕ). take n bytes) (sym (prefix_len_is is_ascii_digit bytes at 0 le below here))

abbrev pub next : ℕ → ℕ → ℕ
next value digit = value * 10 + (digit - 48)

pub grows : (value : ℕ) (digits : List ℕ) → value ≤ fold next value digits
grows value [] = omega arith
grows value (digit ∷ digits) = omega (arith, grows (next value digit) digits)

is_digit : (b : ℕ) → is_ascii_digit b ≡ true → IsAsciiDigit b
is_digit b e = grind (arith, nat_tests)

pub all_digits : (bytes : List ℕ) (count : ℕ) → count ≤ length bytes
    → ((k : ℕ) → k < count → is_ascii_digit (get_or bytes k 0) ≡ true) → All IsAsciiDigit (take count bytes)
all_digits bytes count le below = All-from_get_or IsAsciiDigit (take count bytes) 0 (λ i lt.
    let short : i < count = omega (arith, length-take count bytes, lt) in
    let e = get_or-take count bytes i 0 short in
    rw e (is_digit (get_or bytes i 0) (below i short)))

-- one digit more, read before the others
pub digit_more : (value : ℕ) (digits : List ℕ) (i : ℕ) → i < length digits
    → fold next value (drop i digits) ≡ fold next (next value (get_or digits i 0)) (drop (i + 1) digits)
digit_more value digits i lt = ap (fold next value) (drop_more digits i 0 lt)

-- a value that is too large stays so
pub too_large : (value : ℕ) (digits : List ℕ) (i : ℕ) → i < length digits
    → fold next value (drop i digits) ≡ value_of digits → 2 ^ 64 ≤ next value (get_or digits i 0)
    → None ≡ (if nat_lt (value_of digits) (2 ^ 64) then Some (value_of digits) else None)
too_large value digits i lt so_far large =
    let g = grows (next value (get_or digits i 0)) (drop (i + 1) digits) in
    let e = digit_more value digits i lt in
    let most : 2 ^ 64 ≤ value_of digits = omega arith in
    let t : nat_lt (value_of digits) (2 ^ 64) ≡ false = grind (arith, nat_tests) in
    rw t refl

pub all_read : (value : ℕ) (digits : List ℕ) (i : ℕ) → length digits ≤ i → value < 2 ^ 64 → fold next value (drop i digits) ≡ value_of digits
    → Some value ≡ (if nat_lt (value_of digits) (2 ^ 64) then Some (value_of digits) else None)
all_read value digits i le few so_far =
    let same : value ≡ value_of digits = sym (ap (fold next value) (drop_all i digits le)) ∙ so_far in
    let t : nat_lt (value_of digits) (2 ^ 64) ≡ true = (let few2 : value_of digits < 2 ^ 64 = omega arith in grind (arith, nat_tests)) in
    rw t (ap Some same)

pub nothing_read : (digits : List ℕ) → fold next 0 digits ≡ value_of digits
unfolding value_of
nothing_read digits = refl

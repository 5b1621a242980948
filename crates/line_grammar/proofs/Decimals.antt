-- Each number is spelled in decimal digits.
use Rattle.std.proofs.Common.{◌≡◌, ℕ, ◌+◌, ◌-◌, ◌*◌, ◌/◌, ◌%◌, ◌^◌, ◌<◌, ◌≤◌, List, [], ◌∷◌, ◌++◌, length, refl, ◌∙◌, arith, decimal}
use Rattle.std.proofs.lemmas.Bool.Decides.{nat_tests}
use Rattle.std.proofs.lemmas.Fmt.{decimal_by_steps, length-decimal-le, decimal_nonempty}
use Rattle.std.proofs.lemmas.List.Elements.{All-nil, All-cons, All-push}
use Rattle.std.specs.List.{fold, All}
use Rattle.std.specs.Char.{IsAsciiDigit}
use Rattle.symk_text.specs.Numbers.{value_of}
use Rattle.line_grammar.specs.Numbers.{IsNumber}

abbrev next : ℕ → ℕ → ℕ
next value digit = value * 10 + (digit - 48)

fold_push : (value : ℕ) (digits : List ℕ) (digit : ℕ) → fold next value (digits ++ digit ∷ []) ≡ next (fold next value digits) digit
fold_push value [] digit = refl
fold_push value (d ∷ digits) digit = fold_push (next value d) digits digit

record Spells (n : ℕ) (digits : List ℕ) : Type 0 where
  each : All IsAsciiDigit digits
  value : value_of digits ≡ n

digit_of : (n : ℕ) → n < 10 → IsAsciiDigit (48 + n)
digit_of n lt = grind (arith, nat_tests)

decimal_spells : (n : ℕ) → n < 2 ^ 64 → Spells n (decimal n)
unfolding value_of
decimal_spells = decimal_by_steps Spells
    (λ n lt. record {
      each = All-cons IsAsciiDigit (48 + n) [] (digit_of n lt) (All-nil IsAsciiDigit);
      value =
          (let e : 0 * 10 + ((48 + n) - 48) ≡ n = omega arith in e);
    })
    (λ n ds le s. record {
      each = All-push IsAsciiDigit ds (48 + n % 10) s.each (digit_of (n % 10) (omega arith));
      value = fold_push 0 ds (48 + n % 10) ∙ (let v : fold next 0 ds ≡ n / 10 = s.value in
          let e : fold next 0 ds * 10 + ((48 + n % 10) - 48) ≡ n = omega arith in e);
    })

-- a number in decimal digits, without leading zeros
pub decimal_number : (n : ℕ) → n < 2 ^ 64 → IsNumber (decimal n) n
decimal_number n lt =
    let s = decimal_spells n lt in
    record { some = decimal_nonempty n lt; few = length-decimal-le 20 n (omega arith) (omega arith) lt; each = s.each; value = s.value; small = lt }

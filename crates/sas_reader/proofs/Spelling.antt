-- Each list of numbers is spelled by some line.
use Rattle.std.proofs.Common.{◌≡◌, ℕ, ◌+◌, ◌-◌, ◌*◌, ◌/◌, ◌%◌, ◌^◌, ◌<◌, ◌≤◌, Bool, true, false, eqb, nat_lt, nat_le, List, [], ◌∷◌, ◌++◌, length, take, filter, Option, Some, None, refl, ap, subst, ◌∙◌, arith, codes, decimal}
use Rattle.std.proofs.lemmas.Fmt.{decimal_by_steps, length-decimal-le, decimal_nonempty}
use Rattle.std.proofs.lemmas.List.Splits.{slice_split_at}
use Rattle.std.proofs.lemmas.List.Elements.{All-from_recursion}
use Rattle.std.proofs.lemmas.List.{take_all}
use Rattle.std.proofs.lemmas.Bool.Decides.{nat_tests}
use Rattle.std.proofs.lemmas.Slice.Eq.{bytes_eq-Decides}
use Rattle.std.specs.Option.{option_and_then}
use Rattle.std.specs.Str.{bytes_eq}
use Rattle.std.specs.List.{fold, prefix_len, slice_split, AllByRecursion}
use Rattle.std.specs.Char.{is_ascii_digit}
use Rattle.symk_text.specs.Numbers.{value_of, run_at, number_at}
use Rattle.sas_reader.specs.Numbers.{is_blank_byte, words_of, number_of_word, numbers_of_words, numbers_of, with_first}

abbrev next : ℕ → ℕ → ℕ
next value digit = value * 10 + (digit - 48)

fold_push : (value : ℕ) (digits : List ℕ) (digit : ℕ) → fold next value (digits ++ digit ∷ []) ≡ next (fold next value digits) digit
fold_push value [] digit = refl
fold_push value (d ∷ digits) digit = fold_push (next value d) digits digit

pub record Spells (n : ℕ) (digits : List ℕ) : Type 0 where
  pub each : AllByRecursion (λ d. is_ascii_digit d ≡ true) digits
  pub value : value_of digits ≡ n

one_more : (digits : List ℕ) (d : ℕ) → AllByRecursion (λ d. is_ascii_digit d ≡ true) digits → is_ascii_digit d ≡ true
    → AllByRecursion (λ d. is_ascii_digit d ≡ true) (digits ++ d ∷ [])
one_more [] d h e = (e, tt)
one_more (c ∷ digits) d h e = (h.0, one_more digits d h.1 e)

digit_of : (n : ℕ) → n < 10 → is_ascii_digit (48 + n) ≡ true
digit_of n lt = grind (arith, nat_tests)

pub decimal_spells : (n : ℕ) → n < 2 ^ 64 → Spells n (decimal n)
unfolding value_of
decimal_spells = decimal_by_steps Spells
    (λ n lt. record { each = (digit_of n lt, tt); value = (let e : 0 * 10 + ((48 + n) - 48) ≡ n = omega arith in e) })
    (λ n ds le s. record {
      each = one_more ds (48 + n % 10) s.each (digit_of (n % 10) (omega arith));
      value = fold_push 0 ds (48 + n % 10) ∙ (let v : fold next 0 ds ≡ n / 10 = s.value in
          let e : fold next 0 ds * 10 + ((48 + n % 10) - 48) ≡ n = omega arith in e);
    })

all_taken : (digits : List ℕ) → AllByRecursion (λ d. is_ascii_digit d ≡ true) digits → prefix_len is_ascii_digit digits ≡ length digits
all_taken [] h = refl
all_taken (d ∷ digits) h = (let e = all_taken digits h.1 in rw h.0 (omega arith))

read_back : (digits : List ℕ) (n : ℕ) → AllByRecursion (λ d. is_ascii_digit d ≡ true) digits → value_of digits ≡ n
    → 1 ≤ length digits → length digits ≤ 20 → n < 2 ^ 64 → number_at digits 0 ≡ Some (n, 0 + length digits)
read_back digits n each value some few small =
    let run : run_at digits 0 ≡ digits = ap (λ (k : ℕ). take k digits) (all_taken digits each) ∙ take_all (length digits) digits (omega arith) in
    let t1 : nat_le 1 (length digits) ≡ true = grind (arith, nat_tests) in
    let t2 : nat_le (length digits) 20 ≡ true = grind (arith, nat_tests) in
    let t3 : nat_lt n (2 ^ 64) ≡ true = grind (arith, nat_tests) in
    rw (run, value, t1, t2, t3) refl

not_minus : (digits : List ℕ) → 1 ≤ length digits → AllByRecursion (λ d. is_ascii_digit d ≡ true) digits → bytes_eq digits (codes "-1") ≡ false
not_minus digits some each = by_test (bytes_eq digits (codes "-1")) refl
  where
    by_test : (t : Bool) → bytes_eq digits (codes "-1") ≡ t → t ≡ false
    by_test false e = refl
    by_test true e = (let same : digits ≡ codes "-1" = (bytes_eq-Decides digits (codes "-1")).0 e in
        let bad = subst (AllByRecursion (λ d. is_ascii_digit d ≡ true)) same
        each in (let b : is_ascii_digit 45 ≡ true = bad.0 in cc))

-- a word that stands alone, and the number that it is
pub record Word (n : Option ℕ) (word : List ℕ) : Type 0 where
  pub some : 1 ≤ length word
  pub inked : AllByRecursion (λ b. is_blank_byte b ≡ false) word
  pub is : number_of_word word ≡ Some n

digit_inked : (d : ℕ) → is_ascii_digit d ≡ true → is_blank_byte d ≡ false
digit_inked d e = grind (arith, nat_tests)

digits_inked : (digits : List ℕ) → AllByRecursion (λ d. is_ascii_digit d ≡ true) digits → AllByRecursion (λ b. is_blank_byte b ≡ false) digits
digits_inked [] h = tt
digits_inked (d ∷ digits) h = (digit_inked d h.0, digits_inked digits h.1)

pub number_word : (n : ℕ) → n < 2 ^ 64 → Word (Some n) (decimal n)
unfolding number_of_word
number_word n lt =
    let s = decimal_spells n lt in
    let some = decimal_nonempty n lt in
    let few = length-decimal-le 20 n (omega arith) (omega arith) lt in
    let back = read_back (decimal n) n s.each s.value some few lt in
    let minus = not_minus (decimal n) some s.each in
    let t : eqb (0 + length (decimal n)) (length (decimal n)) ≡ true = grind (arith, nat_tests) in
    record { some = some; inked = digits_inked (decimal n) s.each; is = rw (minus, back, t) refl }

pub minus_word : Word None (codes "-1")
unfolding number_of_word
minus_word = record { some = omega arith; inked = (refl, (refl, tt)); is = refl }

word_for : Option ℕ → List ℕ
word_for None = codes "-1"
word_for (Some n) = decimal n

pub line_for : List (Option ℕ) → List ℕ
line_for [] = []
line_for (n ∷ ns) = word_for n ++ 32 ∷ line_for ns

abbrev pub IsSmall : Option ℕ → Type 0
IsSmall None = Unit {0}
IsSmall (Some n) = n < 2 ^ 64

word_is_for : (n : Option ℕ) → IsSmall n → Word n (word_for n)
unfolding word_for
word_is_for None h = minus_word
word_is_for (Some n) h = number_word n h

pub keep_word : (word : List ℕ) (words : List (List ℕ)) → 1 ≤ length word
    → filter (λ (w : List ℕ). nat_lt 0 (length w)) (word ∷ words) ≡ word ∷ filter
    (λ (w : List ℕ). nat_lt 0 (length w)) words
keep_word word words some = (let t : nat_lt 0 (length word) ≡ true = grind (arith, nat_tests) in rw t refl)

pub word_then : (n : Option ℕ) (word rest : List ℕ) → Word n word → numbers_of (word ++ 32 ∷ rest) ≡ with_first n (numbers_of rest)
unfolding numbers_of numbers_of_words words_of
word_then n word rest w =
    ap (λ (words : List (List ℕ)). numbers_of_words (filter (λ (w : List ℕ). nat_lt 0 (length w)) words))
    (slice_split_at is_blank_byte word 32 rest (All-from_recursion (λ b. is_blank_byte b ≡ false) word w.inked)
    refl)
    ∙ ap numbers_of_words (keep_word word (slice_split is_blank_byte rest) w.some)
    ∙ ap (λ (o : Option (Option ℕ)). option_and_then (λ (m : Option ℕ). with_first m (numbers_of rest)) o) w.is

pub numbers_spelled : (ns : List (Option ℕ)) → AllByRecursion IsSmall ns → numbers_of (line_for ns) ≡ Some ns
unfolding line_for numbers_of numbers_of_words words_of
numbers_spelled [] h = refl
numbers_spelled (n ∷ ns) h = word_then n (word_for n) (line_for ns) (word_is_for n h.0) ∙ ap (with_first n) (numbers_spelled ns h.1)

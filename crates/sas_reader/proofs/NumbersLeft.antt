-- The numbers of a line, found from the left.
use Rattle.std.proofs.Common.{◌≡◌, ℕ, ◌≤◌, true, false, eqb, List, [], ◌∷◌, length, drop, Option, Some, None, refl, sym, ap, subst, ◌∙◌, arith}
use Rattle.std.proofs.lemmas.Bool.Decides.{nat_tests}
use Rattle.std.specs.Option.{option_and_then}
use Rattle.sas_reader.specs.Numbers.{is_blank, words_of, number_of_word, numbers_of_words, numbers_of, with_first, HasNoFirst, only_number, two_numbers, three_numbers}
use Rattle.sas_reader.proofs.WordsLeft.{word_in, blanks_in, word_first, no_word, skip_blanks, blank_words, words_blank}

abbrev Numbers : Type 0
Numbers = Option (List (Option ℕ))

pub none_at_blank : (line : List ℕ) → is_blank line ≡ true → numbers_of line ≡ Some []
unfolding numbers_of numbers_of_words
none_at_blank line e = rw (blank_words line e) refl

some_more : (words : List (List ℕ)) → (words ≡ [] → ⊥) → numbers_of_words words ≡ Some [] → ⊥
unfolding numbers_of_words
some_more [] h e = h refl
some_more (word ∷ words) h e = by_word (number_of_word word) (numbers_of_words words) e
  where
    by_word : (n : Option (Option ℕ)) (o : Numbers) → option_and_then (λ (m : Option ℕ). with_first m o) n ≡ Some [] → ⊥
    by_word None o e = cc
    by_word (Some n) None e = cc
    by_word (Some n) (Some ns) e = (let same : n ∷ ns ≡ [] = cc in cc)

pub some_at_ink : (line : List ℕ) → is_blank line ≡ false → numbers_of line ≡ Some [] → ⊥
unfolding numbers_of
some_at_ink line e none = some_more (words_of line) (words_blank line e) none

-- the first word is a number
pub number_first : (line from word : List ℕ) (n : Option ℕ) → from ≡ drop (blanks_in line) line → word ≡ word_in from
    → 1 ≤ length word → number_of_word word ≡ Some n → numbers_of line ≡ with_first n
    (numbers_of (drop (length word) from))
unfolding numbers_of numbers_of_words
number_first line from word n f w some e =
    let len : 1 ≤ length (word_in from) = subst (λ (z : List ℕ). 1 ≤ length z) w some in
    let words : words_of line ≡ word ∷ words_of (drop (length word) from) = sym (skip_blanks line)
    ∙ ap words_of (sym f) ∙ word_first from len ∙ ap (λ (z : List ℕ). z ∷ words_of (drop (length z) from))
    (sym w) in
    ap numbers_of_words words ∙ ap (λ (o : Option (Option ℕ)). option_and_then (λ (m : Option ℕ). with_first m (numbers_of (drop (length word) from))) o) e

none_first : (o : Numbers) → o ≡ None → HasNoFirst o
none_first None e = tt
none_first (Some ns) e = cc

empty_first : (o : Numbers) → o ≡ Some [] → HasNoFirst o
empty_first None e = tt
empty_first (Some []) e = tt
empty_first (Some (n ∷ ns)) e = (let same : n ∷ ns ≡ [] = cc in cc)

pub no_number_first : (line from word : List ℕ) → from ≡ drop (blanks_in line) line → word ≡ word_in from
    → 1 ≤ length word → number_of_word word ≡ None → HasNoFirst (numbers_of line)
unfolding numbers_of numbers_of_words
no_number_first line from word f w some e =
    let len : 1 ≤ length (word_in from) = subst (λ (z : List ℕ). 1 ≤ length z) w some in
    let words : words_of line ≡ word ∷ words_of (drop (length word) from) = sym (skip_blanks line)
    ∙ ap words_of (sym f) ∙ word_first from len ∙ ap (λ (z : List ℕ). z ∷ words_of (drop (length z) from))
    (sym w) in
    none_first (numbers_of line) (ap numbers_of_words words ∙ ap
    (λ (o : Option (Option ℕ)). option_and_then (λ (m : Option ℕ). with_first m
    (numbers_of (drop (length word) from))) o) e)

pub nothing_first : (line from word : List ℕ) → from ≡ drop (blanks_in line) line → word ≡ word_in from → length word ≡ 0 → HasNoFirst (numbers_of line)
unfolding numbers_of numbers_of_words
nothing_first line from word f w e =
    let z : length (word_in (drop (blanks_in line) line)) ≡ 0 = subst (λ (x : List ℕ). length (word_in x) ≡ 0) f (subst (λ (x : List ℕ). length x ≡ 0) w e) in
    empty_first (numbers_of line) (ap numbers_of_words (no_word line z))

-- What the first numbers of a line say, where it ends after them.

pub only_is : (o rest : Numbers) (n : Option ℕ) → o ≡ with_first n rest → rest ≡ Some [] → Some n ≡ option_and_then only_number o
only_is o rest n e f = rw (e, f) refl

pub not_only : (o rest : Numbers) (n : Option ℕ) → o ≡ with_first n rest → (rest ≡ Some [] → ⊥) → None ≡ option_and_then only_number o
not_only o None n e h = rw e refl
not_only o (Some []) n e h = absurd (h refl)
not_only o (Some (m ∷ ns)) n e h = rw e refl

pub two_are : (o o1 o2 : Numbers) (a b : ℕ) → o ≡ with_first (Some a) o1 → o1 ≡ with_first (Some b) o2 → o2 ≡ Some []
    → Some (a, b) ≡ option_and_then two_numbers o
two_are o o1 o2 a b e f g = rw (e, f, g) refl

pub not_two : (o o1 o2 : Numbers) (a b : ℕ) → o ≡ with_first (Some a) o1 → o1 ≡ with_first (Some b) o2
    → (o2 ≡ Some [] → ⊥) → None ≡ option_and_then two_numbers o
not_two o o1 None a b e f h = rw (e, f) refl
not_two o o1 (Some []) a b e f h = absurd (h refl)
not_two o o1 (Some (m ∷ ns)) a b e f h = rw (e, f) refl

pub three_are : (o o1 o2 o3 : Numbers) (a b c : ℕ) → o ≡ with_first (Some a) o1 → o1 ≡ with_first (Some b) o2
    → o2 ≡ with_first (Some c) o3 → o3 ≡ Some [] → Some (a, b, c) ≡ option_and_then three_numbers o
three_are o o1 o2 o3 a b c e f g i = rw (e, f, g, i) refl

pub not_three : (o o1 o2 o3 : Numbers) (a b c : ℕ) → o ≡ with_first (Some a) o1 → o1 ≡ with_first (Some b) o2
    → o2 ≡ with_first (Some c) o3 → (o3 ≡ Some [] → ⊥) → None ≡ option_and_then three_numbers o
not_three o o1 o2 None a b c e f g h = rw (e, f, g) refl
not_three o o1 o2 (Some []) a b c e f g h = absurd (h refl)
not_three o o1 o2 (Some (m ∷ ns)) a b c e f g h = rw (e, f, g) refl

pub is_empty_word : (word : List ℕ) → eqb (length word) 0 ≡ true → length word ≡ 0
is_empty_word word e = grind (arith, nat_tests)

pub is_some_word : (word : List ℕ) → eqb (length word) 0 ≡ false → 1 ≤ length word
is_some_word word e = grind (arith, nat_tests)

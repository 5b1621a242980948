-- Lines of numbers.
use Rattle.std.specs.Prelude.{◌≡◌, ℕ, ◌==◌, ◌||◌, nat_lt, if◌then◌else◌, Bool, List, [], ◌∷◌, length, filter, codes, Option, Some, None}
use Rattle.std.specs.List.{slice_split, list_all}
use Rattle.std.specs.Option.{option_map, option_and_then}
use Rattle.std.specs.Str.{bytes_eq}
use Rattle.symk_text.specs.Numbers.{number_at}

-- spaces and tabs
abbrev pub is_blank_byte : ℕ → Bool
is_blank_byte byte = byte == 32 || byte == 9

abbrev pub is_blank : List ℕ → Bool
is_blank line = list_all is_blank_byte line

-- what stands between blanks
unfoldable pub words_of : List ℕ → List (List ℕ)
words_of line = filter (λ word. nat_lt 0 (length word)) (slice_split is_blank_byte line)

-- the number that was found, if it is the whole word
abbrev pub if_whole : Option (ℕ × ℕ) → ℕ → Option (Option ℕ)
if_whole None end = None
if_whole (Some found) end = if found.1 == end then Some (Some found.0) else None

-- the number that a word is, and None for -1
unfoldable pub number_of_word : List ℕ → Option (Option ℕ)
number_of_word word = if bytes_eq word (codes "-1") then Some None else if_whole (number_at word 0) (length word)

abbrev pub with_first : Option ℕ → Option (List (Option ℕ)) → Option (List (Option ℕ))
with_first n others = option_map (λ ns. n ∷ ns) others

-- the numbers that words are, if each is one
unfoldable pub numbers_of_words : List (List ℕ) → Option (List (Option ℕ))
numbers_of_words [] = Some []
numbers_of_words (word ∷ words) = option_and_then (λ n. with_first n (numbers_of_words words)) (number_of_word word)

-- the numbers of a line of numbers, -1 being None
unfoldable pub numbers_of : List ℕ → Option (List (Option ℕ))
numbers_of line = numbers_of_words (words_of line)

-- no number comes first
abbrev pub HasNoFirst : Option (List (Option ℕ)) → Type 0
HasNoFirst None = Unit {0}
HasNoFirst (Some []) = Unit {0}
HasNoFirst (Some (n ∷ ns)) = ⊥

-- no number but -1 comes first
abbrev pub HasNoPlainFirst : Option (List (Option ℕ)) → Type 0
HasNoPlainFirst None = Unit {0}
HasNoPlainFirst (Some []) = Unit {0}
HasNoPlainFirst (Some (None ∷ ns)) = Unit {0}
HasNoPlainFirst (Some (Some n ∷ ns)) = ⊥

-- what lists of numbers say

abbrev pub only_number : List (Option ℕ) → Option (Option ℕ)
only_number (n ∷ []) = Some n
only_number _ = None

abbrev pub two_numbers : List (Option ℕ) → Option (ℕ × ℕ)
two_numbers (Some a ∷ Some b ∷ []) = Some (a, b)
two_numbers _ = None

abbrev pub three_numbers : List (Option ℕ) → Option (ℕ × ℕ × ℕ)
three_numbers (Some a ∷ Some b ∷ Some c ∷ []) = Some (a, b, c)
three_numbers _ = None

-- what was found first in a line, and the rest of the line, is what is found first in its numbers
abbrev pub FindsNumbers : {A : Type 0} → Option (A × List (Option ℕ)) → A → List ℕ → Type 0
FindsNumbers found a rest = found ≡ option_map (λ ns. (a, ns)) (numbers_of rest)

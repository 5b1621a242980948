-- What stands at the front of a line.
use Rattle.std.specs.Prelude.{ℕ, ◌==◌, if◌then◌else◌, Bool, false, List, [], ◌∷◌, length, drop, Option, Some, None}
use Rattle.std.specs.Option.{option_map, option_map_or, option_and_then}
use Rattle.symk_text.specs.Numbers.{number_at}

-- what follows these bytes at the front of a line
unfoldable pub after : List ℕ → List ℕ → Option (List ℕ)
after [] line = Some line
after (w ∷ word) [] = None
after (w ∷ word) (b ∷ line) = if b == w then after word line else None

-- a number at the front, and what follows it
unfoldable pub first_number : List ℕ → Option (ℕ × List ℕ)
first_number bytes = option_map (λ x. (x.0, drop x.1 bytes)) (number_at bytes 0)

-- the number that follows these bytes, and what follows the number
abbrev pub number_then : List ℕ → List ℕ → Option (ℕ × List ℕ)
number_then word line = option_and_then first_number (after word line)

abbrev pub if_alone : ℕ × List ℕ → Option ℕ
if_alone x = if length x.1 == 0 then Some x.0 else None

-- the number of a line that has these bytes before it and nothing after it
abbrev pub number_after : List ℕ → List ℕ → Option ℕ
number_after word line = option_and_then if_alone (number_then word line)

-- the line is these bytes and then this number
abbrev pub is_numbered : List ℕ → ℕ → List ℕ → Bool
is_numbered word n line = option_map_or (λ k. k == n) (number_after word line) false

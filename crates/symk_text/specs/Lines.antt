-- The lines of a text.
use Rattle.std.specs.Prelude.{ℕ, ◌-◌, ◌==◌, if◌then◌else◌, List, [], ◌∷◌, length, take, slice_index, Contains}
use Rattle.std.specs.List.{slice_split}

-- a line has no LF
abbrev pub IsLine : List ℕ → Type 0
IsLine line = ¬ Contains line 10

-- without one CR at the end, where there is one
abbrev pub without_return : List ℕ → List ℕ
without_return piece = if slice_index piece (length piece - 1) == 13 then take (length piece - 1) piece else piece

-- Each piece is a line, but for a last one that is empty.
abbrev pub lines_of_pieces : List (List ℕ) → List (List ℕ)
lines_of_pieces [] = []
lines_of_pieces (last ∷ []) = if length last == 0 then [] else without_return last ∷ []
lines_of_pieces (piece ∷ next ∷ pieces) = without_return piece ∷ lines_of_pieces (next ∷ pieces)

-- the lines of a text, which is cut at each LF
unfoldable pub lines : List ℕ → List (List ℕ)
lines bytes = lines_of_pieces (slice_split (λ byte. byte == 10) bytes)

-- The rows of a file, and the lines that spell them.
use Rattle.std.specs.Prelude.{◌≡◌, ℕ, List, [], ◌∷◌, Option, Some}
use Rattle.sas_reader.specs.declared.fault.Shape.{Shape}
use Rattle.sas_reader.specs.declared.fault.Shape.TheVariants.{Name}
use Rattle.sas_reader.specs.Numbers.{numbers_of}

-- A row asks for exactly these bytes, for a name, or for these numbers, where None is -1.
pub data Row : Type 0 where
  word : Shape → List ℕ → Row
  name : List ℕ → Row
  numbers : Shape → List (Option ℕ) → Row

-- a row of one one_number
abbrev pub one_number : Shape → ℕ → Row
one_number shape n = numbers shape (Some n ∷ [])

abbrev pub shape_of : Row → Shape
shape_of (word shape bytes) = shape
shape_of (name bytes) = Name
shape_of (numbers shape ns) = shape

-- the line spells the row
abbrev pub IsSpelled : Row → List ℕ → Type 0
IsSpelled (word shape bytes) line = line ≡ bytes
IsSpelled (name bytes) line = line ≡ bytes
IsSpelled (numbers shape ns) line = numbers_of line ≡ Some ns

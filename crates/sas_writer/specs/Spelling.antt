-- How lines, names and numbers are spelled.
use Rattle.std.specs.Prelude.{ℕ, ◌-◌, ◌==◌, if◌then◌else◌, List, [], ◌∷◌, ◌++◌, length, slice_index, Option, None, Some, codes, decimal, flat_map}
use Rattle.symk_task.specs.declared.parts.Fact.{Fact}
use Rattle.symk_task.specs.declared.parts.Effect.{Effect}

-- the text of the lines, each ended by LF
abbrev pub text_of : List (List ℕ) → List ℕ
text_of [] = []
text_of (line ∷ lines) = line ++ 10 ∷ text_of lines

-- a name that ends with CR is followed by another, since one CR at the end of a line is dropped
unfoldable pub name_line : List ℕ → List ℕ
name_line name = if slice_index name (length name - 1) == 13 then name ++ 13 ∷ [] else name

-- the number, or -1 where there is none
unfoldable pub or_minus_one : Option ℕ → List ℕ
or_minus_one None = codes "-1"
or_minus_one (Some n) = decimal n

-- two numbers with a space between them
abbrev pub fact_line : Fact → List ℕ
fact_line fact = decimal fact.var ++ 32 ∷ decimal fact.val

-- a fact and a space
abbrev pub condition : Fact → List ℕ
condition fact = fact_line fact ++ 32 ∷ []

-- how many conditions, the conditions, the variable, the value that it must have, the value that it gets
unfoldable pub effect_line : Effect → List ℕ
effect_line effect =
    decimal (length effect.conds) ++ 32 ∷ flat_map condition effect.conds
    ++ decimal effect.var ++ 32 ∷ or_minus_one effect.pre ++ 32 ∷ decimal effect.post

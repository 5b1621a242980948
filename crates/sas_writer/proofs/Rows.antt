-- Each line that is written spells its row.
use Rattle.std.proofs.Common.{◌≡◌, ℕ, suc, ◌^◌, ◌<◌, Bool, true, false, eqb, nat_lt, ◌&&◌, List, [], ◌∷◌, ◌++◌, map, Option, Some, refl, sym, ap, subst, ◌∙◌, arith, decimal}
use Rattle.std.proofs.lemmas.Bool.Decides.{nat_tests}
use Rattle.std.specs.List.{list_all, flat_map, AllByRecursion, Contains}
use Rattle.symk_text.specs.Lines.{without_return, lines}
use Rattle.symk_task.specs.Fits.{IsName}
use Rattle.line_grammar.specs.Rows.{Lines, Spells}
use Rattle.line_grammar.proofs.Exact as grammar
use Rattle.sas_reader.specs.declared.fault.Shape.{Shape}
use Rattle.sas_reader.specs.Rows.{Row, word, name, numbers, one_number, shape_of, IsSpelled}
use Rattle.sas_reader.specs.Numbers.{numbers_of}
use Rattle.sas_writer.specs.Spelling.{text_of, name_line}
use Rattle.sas_writer.proofs.Pieces.{Unfed, Plain, Unfed-plain, without_return-plain, without_return-name_line, Unfed-name_line, lines-text_of}
use Rattle.sas_writer.proofs.Numbers.{IsLineOf, number_line}

-- what is written for a row is a line, and spells the row without one CR at its end
abbrev pub IsWritten : Row → List ℕ → Type 0
IsWritten row piece = Unfed piece × IsSpelled row (without_return piece)

abbrev pub AreWritten : List Row → Lines → Type 0
AreWritten = Spells IsWritten

abbrev pub IsPlain : List ℕ → Type 0
IsPlain piece = list_all (λ byte. nat_lt 13 byte) piece ≡ true

plain_of : (piece : List ℕ) → IsPlain piece → Plain piece
plain_of [] e = tt
plain_of (b ∷ piece) e = by_test (nat_lt 13 b) refl (plain_of piece) e
  where
    by_test : (t : Bool) → nat_lt 13 b ≡ t → (IsPlain piece → Plain piece) → (t && list_all (λ byte. nat_lt 13 byte) piece) ≡ true → Plain (b ∷ piece)
    by_test true t ih e = (grind (arith, nat_tests), ih e)
    by_test false t ih e = cc

pub word_written : (shape : Shape) (bytes : List ℕ) → IsPlain bytes → IsWritten (word shape bytes) bytes
word_written shape bytes e = (Unfed-plain bytes (plain_of bytes e), without_return-plain bytes (plain_of bytes e))

pub numbers_written : (shape : Shape) (ns : List (Option ℕ)) (line : List ℕ) → IsLineOf ns line → IsWritten (numbers shape ns) line
numbers_written shape ns line h = (Unfed-plain line h.plain, ap numbers_of (without_return-plain line h.plain) ∙ h.numbers)

pub number_written : (shape : Shape) (n : ℕ) → n < 2 ^ 64 → IsWritten (one_number shape n) (decimal n)
number_written shape n lt = numbers_written shape (Some n ∷ []) (decimal n) (number_line n lt)

unfed_of : (bytes : List ℕ) → (Contains bytes 10 → ⊥) → Unfed bytes
unfed_of [] h = tt
unfed_of (b ∷ bytes) h = (by_test (eqb b 10) refl, unfed_of bytes (λ k. h (suc k.0, omega (arith, k.1), k.2)))
  where
    by_test : (t : Bool) → eqb b 10 ≡ t → t ≡ false
    by_test true t = absurd (h (0, omega arith, (let same : b ≡ 10 = grind (arith, nat_tests) in same)))
    by_test false t = refl

pub name_written : (n : List ℕ) → IsName n → IsWritten (name n) (name_line n)
name_written n h = (Unfed-name_line n (unfed_of n h.line), without_return-name_line n)

pub then_written : (r1 r2 : List Row) (l1 l2 : Lines) → AreWritten r1 l1 → AreWritten r2 l2 → AreWritten (r1 ++ r2) (l1 ++ l2)
then_written r1 r2 l1 l2 h k = grammar.spells_append shape_of IsWritten r1 r2 l1 l2 h k

-- a line for each
pub each_line : {X : Type 0} (rows : X → List Row) (piece : X → List ℕ) (xs : List X)
    → AllByRecursion (λ x. AreWritten (rows x) (piece x ∷ [])) xs → AreWritten (flat_map rows xs) (map piece xs)
each_line rows piece [] h = tt
each_line rows piece (x ∷ xs) h = then_written (rows x) (flat_map rows xs) (piece x ∷ []) (map piece xs) h.0 (each_line rows piece xs h.1)

-- some lines for each
pub each_lines : {X : Type 0} (rows : X → List Row) (pieces : X → Lines) (xs : List X)
    → AllByRecursion (λ x. AreWritten (rows x) (pieces x)) xs → AreWritten (flat_map rows xs) (flat_map pieces xs)
each_lines rows pieces [] h = tt
each_lines rows pieces (x ∷ xs) h = then_written (rows x) (flat_map rows xs) (pieces x) (flat_map pieces xs) h.0 (each_lines rows pieces xs h.1)

pub unfed_written : (rows : List Row) (ls : Lines) → AreWritten rows ls → AllByRecursion Unfed ls
unfed_written [] [] h = tt
unfed_written [] (l ∷ ls) h = absurd h
unfed_written (r ∷ rows) [] h = absurd h
unfed_written (r ∷ rows) (l ∷ ls) h = (h.0.0, unfed_written rows ls h.1)

pub spelled_written : (rows : List Row) (ls : Lines) → AreWritten rows ls → Spells IsSpelled rows (map without_return ls)
spelled_written [] [] h = tt
spelled_written [] (l ∷ ls) h = absurd h
spelled_written (r ∷ rows) [] h = absurd h
spelled_written (r ∷ rows) (l ∷ ls) h = (h.0.1, spelled_written rows ls h.1)

-- the lines of the text that is written for rows spell them
pub written_spelled : (rows : List Row) (ls : Lines) → AreWritten rows ls → Spells IsSpelled rows (lines (text_of ls))
written_spelled rows ls h = subst (Spells IsSpelled rows) (sym (lines-text_of ls (unfed_written rows ls h))) (spelled_written rows ls h)

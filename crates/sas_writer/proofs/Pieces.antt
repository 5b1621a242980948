-- What a text made of lines is cut into.
use Rattle.std.proofs.Common.{◌≡◌, ℕ, ◌-◌, ◌<◌, Bool, true, false, cond, eqb, List, [], ◌∷◌, ◌++◌, length, get_or, map, refl, ap, ◌∙◌, arith, length-append}
use Rattle.std.proofs.lemmas.List.{get_or-append_right, take-append-le, take_all}
use Rattle.std.proofs.lemmas.List.Elements.{All-from_recursion}
use Rattle.std.proofs.lemmas.List.Splits.{slice_split_at}
use Rattle.std.proofs.lemmas.Bool.Decides.{nat_tests}
use Rattle.std.specs.List.{slice_split, AllByRecursion}
use Rattle.symk_text.specs.Lines.{without_return, lines_of_pieces, lines}
use Rattle.sas_writer.specs.Spelling.{text_of, name_line}

-- no LF
abbrev pub Unfed : List ℕ → Type 0
Unfed = AllByRecursion (λ byte. eqb byte 10 ≡ false)

-- neither LF nor CR
abbrev pub Plain : List ℕ → Type 0
Plain = AllByRecursion (λ byte. 13 < byte)

pub Unfed-plain : (piece : List ℕ) → Plain piece → Unfed piece
Unfed-plain [] h = tt
Unfed-plain (b ∷ piece) h = (let more : 13 < b = h.0 in grind (arith, nat_tests), Unfed-plain piece h.1)

pub AllByRecursion-append : (P : ℕ → Type 0) (xs ys : List ℕ) → AllByRecursion P xs → AllByRecursion P ys → AllByRecursion P (xs ++ ys)
AllByRecursion-append P [] ys h k = k
AllByRecursion-append P (x ∷ xs) ys h k = (h.0, AllByRecursion-append P xs ys h.1 k)

pub without_return-plain : (piece : List ℕ) → Plain piece → without_return piece ≡ piece
without_return-plain [] h = refl
without_return-plain (b ∷ piece) h =
    let more : 13 < get_or (b ∷ piece) (length (b ∷ piece) - 1) 0 =
    All-from_recursion (λ byte. 13 < byte) (b ∷ piece) h (length (b ∷ piece) - 1) 0 (omega arith) in
    let t : eqb (get_or (b ∷ piece) (length (b ∷ piece) - 1) 0) 13 ≡ false = grind (arith, nat_tests) in
    rw t refl

return_dropped : (name : List ℕ) → without_return (name ++ 13 ∷ []) ≡ name
return_dropped name =
    let last : length (name ++ 13 ∷ []) - 1 ≡ length name = omega (arith, length-append name (13 ∷ [])) in
    let at : get_or (name ++ 13 ∷ []) (length name) 0 ≡ 13 =
    get_or-append_right name (13 ∷ []) (length name) (length name) 0 refl (omega arith)
    ∙ (let z : length name - length name ≡ 0 = omega arith in rw z refl) in
    let t : eqb (get_or (name ++ 13 ∷ []) (length name) 0) 13 ≡ true = grind (arith, nat_tests) in
    rw (last, t) (take-append-le (length name) name (13 ∷ []) (omega arith) ∙ take_all (length name) name (omega arith))

-- a name is read back whole, also where it ends with CR
pub without_return-name_line : (name : List ℕ) → without_return (name_line name) ≡ name
unfolding name_line
without_return-name_line name = by_test (eqb (get_or name (length name - 1) 0) 13) refl
  where
    by_test : (t : Bool) → eqb (get_or name (length name - 1) 0) 13 ≡ t → without_return (cond t (name ++ 13 ∷ []) name) ≡ name
    by_test true t = return_dropped name
    by_test false t = rw t refl

pub Unfed-name_line : (name : List ℕ) → Unfed name → Unfed (name_line name)
unfolding name_line
Unfed-name_line name h = by_test (eqb (get_or name (length name - 1) 0) 13)
  where
    by_test : (t : Bool) → Unfed (cond t (name ++ 13 ∷ []) name)
    by_test true = AllByRecursion-append (λ byte. eqb byte 10 ≡ false) name (13 ∷ []) h (refl, tt)
    by_test false = h

slice_split-text_of : (ls : List (List ℕ)) → AllByRecursion Unfed ls → slice_split (λ (byte : ℕ). eqb byte 10) (text_of ls) ≡ ls ++ [] ∷ []
slice_split-text_of [] h = refl
slice_split-text_of (l ∷ ls) h =
    slice_split_at (λ (byte : ℕ). eqb byte 10) l 10 (text_of ls) (All-from_recursion (λ byte. eqb byte 10 ≡ false) l h.0) refl
    ∙ ap (λ (ps : List (List ℕ)). l ∷ ps) (slice_split-text_of ls h.1)

lines_of_pieces-ended : (ls : List (List ℕ)) → lines_of_pieces (ls ++ [] ∷ []) ≡ map without_return ls
lines_of_pieces-ended [] = refl
lines_of_pieces-ended (l ∷ []) = refl
lines_of_pieces-ended (l ∷ m ∷ ls) = ap (λ (ps : List (List ℕ)). without_return l ∷ ps) (lines_of_pieces-ended (m ∷ ls))

-- the lines of a text that is made of lines
pub lines-text_of : (ls : List (List ℕ)) → AllByRecursion Unfed ls → lines (text_of ls) ≡ map without_return ls
unfolding lines
lines-text_of ls h = ap lines_of_pieces (slice_split-text_of ls h) ∙ lines_of_pieces-ended ls

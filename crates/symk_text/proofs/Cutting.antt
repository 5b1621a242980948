-- How the lines of a text are found from the left.
use Rattle.std.proofs.Common.{◌≡◌, ℕ, ◌+◌, ◌-◌, ◌<◌, ◌≤◌, Bool, true, false, cond, eqb, List, [], ◌∷◌, ◌++◌, length, get_or, take, drop, refl, sym, ap, subst, inl, inr, ◌∙◌, arith, length-take, length-drop}
use Rattle.std.proofs.lemmas.List.{take-append-drop, drop-drop, drop_more, get_or-take, get_or-drop, take_rest, nil_from_length, append_assoc, append-nil}
use Rattle.std.proofs.lemmas.List.Splits.{slice_split_at, slice_split_none, length-slice_split}
use Rattle.std.proofs.lemmas.List.Elements.{All-from_get_or, All-from_recursion, All-take, All-cons, All-nil, All-contains}
use Rattle.std.proofs.lemmas.Bool.{cases_eq}
use Rattle.std.proofs.lemmas.Bool.Decides.{nat_tests}
use Rattle.std.specs.List.{slice_split, onto_first, All, AllByRecursion}
use Rattle.symk_text.specs.Lines.{IsLine, without_return, lines_of_pieces, lines}

abbrev is_feed : ℕ → Bool
is_feed b = eqb b 10

-- no LF stands from one place to before another
abbrev pub NoFeed : List ℕ → ℕ → ℕ → Type 0
NoFeed bytes from to = (k : ℕ) → from ≤ k → k < to → get_or bytes k 0 ≡ 10 → ⊥

more_pieces : (piece : List ℕ) (pieces : List (List ℕ)) → 1 ≤ length pieces → lines_of_pieces (piece ∷ pieces) ≡ without_return piece ∷ lines_of_pieces pieces
more_pieces piece [] h = absurd (omega arith)
more_pieces piece (p ∷ ps) h = refl

passes_not : (b : ℕ) → (b ≡ 10 → ⊥) → is_feed b ≡ false
passes_not b h = grind (arith, nat_tests)

no_feed_in : (bytes : List ℕ) (from at : ℕ) → from ≤ at → at ≤ length bytes → NoFeed bytes from at
    → All (λ b. is_feed b ≡ false) (take (at - from) (drop from bytes))
no_feed_in bytes from at le within none =
    All-from_get_or (λ b. is_feed b ≡ false) (take (at - from) (drop from bytes)) 0 (λ i lt.
    let short : i < at - from = omega (arith, length-take (at - from) (drop from bytes), lt) in
    rw (get_or-take (at - from) (drop from bytes) i 0 short, get_or-drop from bytes i 0)
    (passes_not (get_or bytes (from + i) 0) (none (from + i) (omega arith) (omega arith))))

cut : (bytes : List ℕ) (from at : ℕ) → from ≤ at → at < length bytes → get_or bytes at 0 ≡ 10
    → drop from bytes ≡ take (at - from) (drop from bytes) ++ 10 ∷ drop (at + 1) bytes
cut bytes from at le lt feed =
    let here : drop at bytes ≡ 10 ∷ drop (at + 1) bytes = drop_more bytes at 0 lt ∙ ap (λ (b : ℕ). b ∷ drop (at + 1) bytes) feed in
    let sum : from + (at - from) ≡ at = omega arith in
    let tail : drop (at - from) (drop from bytes) ≡ 10 ∷ drop (at + 1) bytes = drop-drop (at - from) from bytes ∙ ap (λ (n : ℕ). drop n bytes) sum ∙ here in
    sym (take-append-drop (at - from) (drop from bytes)) ∙ ap (λ (rest : List ℕ). take (at - from) (drop from bytes) ++ rest) tail

pub line_at : (bytes : List ℕ) (from at : ℕ) → from ≤ at → at < length bytes → get_or bytes at 0 ≡ 10 → NoFeed bytes from at
    → lines (drop from bytes) ≡ without_return (take (at - from) (drop from bytes)) ∷ lines (drop (at + 1) bytes)
unfolding lines
line_at bytes from at le lt feed none =
    let piece : List ℕ = take (at - from) (drop from bytes) in
    let rest : List ℕ = drop (at + 1) bytes in
    let some : 1 ≤ length (slice_split is_feed rest) = omega (arith, length-slice_split is_feed rest) in
    ap (λ (b : List ℕ). lines_of_pieces (slice_split is_feed b)) (cut bytes from at le lt feed)
    ∙ ap lines_of_pieces (slice_split_at is_feed piece 10 rest (no_feed_in bytes from at le (omega arith) none) refl)
    ∙ more_pieces piece (slice_split is_feed rest) some

one_piece : (last : List ℕ) → 1 ≤ length last → lines_of_pieces (last ∷ []) ≡ without_return last ∷ []
one_piece last h = (let t : eqb (length last) 0 ≡ false = grind (arith, nat_tests) in rw t refl)

-- what stands after the last LF
pub last_line : (bytes : List ℕ) (from : ℕ) → from < length bytes → NoFeed bytes from (length bytes)
    → lines (drop from bytes) ≡ without_return (drop from bytes) ∷ []
unfolding lines
last_line bytes from lt none =
    let whole : take (length bytes - from) (drop from bytes) ≡ drop from bytes = take_rest bytes from in
    ap lines_of_pieces (slice_split_none is_feed (drop from bytes)
    (subst (All (λ b. is_feed b ≡ false)) whole (no_feed_in bytes from (length bytes) (omega arith)
    (omega arith) none)))
    ∙ one_piece (drop from bytes) (omega (arith, length-drop from bytes))

pub no_lines : (bytes : List ℕ) (from : ℕ) → length (drop from bytes) ≡ 0 → lines (drop from bytes) ≡ []
unfolding lines
no_lines bytes from e = rw (nil_from_length (drop from bytes) e) refl

-- the lines have no LF
abbrev HasNone : List ℕ → Type 0
HasNone = All (λ c. is_feed c ≡ false)

no_feed_added : (b : ℕ) (pieces : List (List ℕ)) → is_feed b ≡ false → AllByRecursion HasNone pieces → AllByRecursion HasNone (onto_first b pieces)
no_feed_added b [] t h = (All-cons (λ c. is_feed c ≡ false) b [] t (All-nil (λ c. is_feed c ≡ false)), tt)
no_feed_added b (piece ∷ pieces) t h = (All-cons (λ c. is_feed c ≡ false) b piece t h.0, h.1)

pieces_have_none : (bytes : List ℕ) → AllByRecursion HasNone (slice_split is_feed bytes)
pieces_have_none [] = (All-nil (λ c. is_feed c ≡ false), tt)
pieces_have_none (b ∷ bytes) = by_test (is_feed b) refl (pieces_have_none bytes)
  where
    by_test : (t : Bool) → is_feed b ≡ t → AllByRecursion HasNone (slice_split is_feed bytes)
        → AllByRecursion HasNone (cond t ([] ∷ slice_split is_feed bytes)
        (onto_first b (slice_split is_feed bytes)))
    by_test true e h = (All-nil (λ c. is_feed c ≡ false), h)
    by_test false e h = no_feed_added b (slice_split is_feed bytes) e h

is_line : (piece : List ℕ) → HasNone piece → IsLine piece
is_line piece h found = (let bad : is_feed 10 ≡ false = All-contains (λ c. is_feed c ≡ false) piece 10 h found in cc)

without_return_has_none : (piece : List ℕ) → HasNone piece → HasNone (without_return piece)
without_return_has_none piece h = by_test (eqb (get_or piece (length piece - 1) 0) 13)
  where
    by_test : (t : Bool) → HasNone (cond t (take (length piece - 1) piece) piece)
    by_test true = All-take (λ c. is_feed c ≡ false) (length piece - 1) piece h
    by_test false = h

lines_have_none : (pieces : List (List ℕ)) → AllByRecursion HasNone pieces → AllByRecursion IsLine (lines_of_pieces pieces)
lines_have_none [] h = tt
lines_have_none (last ∷ []) h = by_test (eqb (length last) 0)
  where
    by_test : (t : Bool) → AllByRecursion IsLine (cond t [] (without_return last ∷ []))
    by_test true = tt
    by_test false = (is_line (without_return last) (without_return_has_none last h.0), tt)
lines_have_none (piece ∷ next ∷ pieces) h = (is_line (without_return piece) (without_return_has_none piece h.0), lines_have_none (next ∷ pieces) h.1)

pub lines_are_lines : (bytes : List ℕ) → All IsLine (lines bytes)
unfolding lines
lines_are_lines bytes = All-from_recursion IsLine (lines_of_pieces (slice_split is_feed bytes))
    (lines_have_none (slice_split is_feed bytes) (pieces_have_none bytes))

-- one byte more of the loop: an LF ends a line
pub one_line_more : (bytes : List ℕ) (items : List (List ℕ)) (from at : ℕ) → from ≤ at → at < length bytes
    → get_or bytes at 0 ≡ 10 → NoFeed bytes from at → items ++ lines (drop from bytes) ≡ lines bytes
    → (items ++ without_return (take (at - from) (drop from bytes)) ∷ []) ++ lines (drop (at + 1) bytes) ≡ lines bytes
one_line_more bytes items from at le lt feed none so_far =
    append_assoc items (without_return (take (at - from) (drop from bytes)) ∷ []) (lines (drop (at + 1) bytes))
    ∙ ap (λ (rest : List (List ℕ)). items ++ rest) (sym (line_at bytes from at le lt feed none)) ∙ so_far

-- the rest after the last LF is a line
pub with_last : (bytes : List ℕ) (items : List (List ℕ)) (from : ℕ)
    → (let last : List ℕ = take (length bytes - from) (drop from bytes) in eqb (length last) 0 ≡ false)
    → NoFeed bytes from (length bytes) → items ++ lines (drop from bytes) ≡ lines bytes
    → items ++ without_return (take (length bytes - from) (drop from bytes)) ∷ [] ≡ lines bytes
with_last bytes items from some none so_far =
    let whole : take (length bytes - from) (drop from bytes) ≡ drop from bytes = take_rest bytes from in
    let n : 1 ≤ length (take (length bytes - from) (drop from bytes)) = grind (arith, nat_tests) in
    let lt : from < length bytes = omega (arith, length-take (length bytes - from) (drop from bytes), length-drop from bytes) in
    rw whole (ap (λ (rest : List (List ℕ)). items ++ rest) (sym (last_line bytes from lt none)) ∙ so_far)

-- nothing is left
pub without_last : (bytes : List ℕ) (items : List (List ℕ)) (from : ℕ)
    → (let last : List ℕ = take (length bytes - from) (drop from bytes) in eqb (length last) 0 ≡ true)
    → items ++ lines (drop from bytes) ≡ lines bytes → items ≡ lines bytes
without_last bytes items from empty so_far =
    let whole : take (length bytes - from) (drop from bytes) ≡ drop from bytes = take_rest bytes from in
    let n : length (take (length bytes - from) (drop from bytes)) ≡ 0 = grind (arith, nat_tests) in
    let e : length (drop from bytes) ≡ 0 = sym (ap (λ (l : List ℕ). length l) whole) ∙ n in
    sym (append-nil items) ∙ ap (λ (rest : List (List ℕ)). items ++ rest) (sym (no_lines bytes from e)) ∙ so_far

pub no_feed_more : (bytes : List ℕ) (from at : ℕ) → NoFeed bytes from at → (get_or bytes at 0 ≡ 10 → ⊥) → NoFeed bytes from (at + 1)
no_feed_more bytes from at none here k low high feed = elim (cases_eq k at)
    [ inl e ↦ here (subst (λ (n : ℕ). get_or bytes n 0 ≡ 10) e feed) | inr ne ↦ none k low (omega arith) feed ]

-- what is between two places without an LF is a line
pub piece_is_line : (bytes : List ℕ) (from at : ℕ) → from ≤ at → at ≤ length bytes → NoFeed bytes from at
    → IsLine (without_return (take (at - from) (drop from bytes)))
piece_is_line bytes from at le within none =
    let piece : List ℕ = take (at - from) (drop from bytes) in
    is_line (without_return piece) (without_return_has_none piece (no_feed_in bytes from at le within none))

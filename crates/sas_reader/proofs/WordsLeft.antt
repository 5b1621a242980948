-- The words of a line, found from the left.
use Rattle.std.proofs.Common.{◌≡◌, ℕ, ◌+◌, ◌-◌, ◌<◌, ◌≤◌, Bool, true, false, cond, not, ◌&&◌, suc, inl, inr, List, [], ◌∷◌, length, get_or, drop, filter, refl, sym, ap, subst, ◌∙◌, arith, nat_lt}
use Rattle.std.proofs.lemmas.List.{drop_more, drop_all, take_all, length-take-le}
use Rattle.std.proofs.lemmas.List.Splits.{slice_split_first, slice_split_none, slice_split-cons_yes}
use Rattle.std.proofs.lemmas.List.Sums.{prefix_len_passes, prefix_len_stops, prefix_len-le-length}
use Rattle.std.proofs.lemmas.List.Elements.{All-from_get_or}
use Rattle.std.proofs.lemmas.Bool.{cases_lt}
use Rattle.std.proofs.lemmas.Bool.Decides.{nat_tests}
use Rattle.std.specs.List.{slice_split, prefix_len, take_while, All}
use Rattle.sas_reader.specs.Numbers.{is_blank_byte, is_blank, words_of}

abbrev pub is_inked : ℕ → Bool
is_inked byte = not (is_blank_byte byte)

abbrev pub blanks_in : List ℕ → ℕ
blanks_in line = prefix_len is_blank_byte line

abbrev pub word_in : List ℕ → List ℕ
word_in line = take_while is_inked line

-- a blank before says nothing
skip_one : (b : ℕ) (line : List ℕ) → is_blank_byte b ≡ true → words_of (b ∷ line) ≡ words_of line
unfolding words_of
skip_one b line t = ap (filter (λ (word : List ℕ). nat_lt 0 (length word))) (slice_split-cons_yes is_blank_byte b line t)

pub skip_blanks : (line : List ℕ) → words_of (drop (blanks_in line) line) ≡ words_of line
skip_blanks [] = refl
skip_blanks (b ∷ line) = by_test (is_blank_byte b) refl (skip_blanks line)
  where
    by_test : (t : Bool) → is_blank_byte b ≡ t → words_of (drop (blanks_in line) line) ≡ words_of line
        → words_of (drop (cond t (1 + blanks_in line) 0) (b ∷ line)) ≡ words_of (b ∷ line)
    by_test true e ih = (let one : 1 + blanks_in line ≡ suc (blanks_in line) = omega arith in rw one (ih ∙ sym (skip_one b line e)))
    by_test false e ih = refl

not_false : (t : Bool) → not t ≡ false → t ≡ true
not_false true e = refl
not_false false e = cc

abbrev pub inked_len : List ℕ → ℕ
inked_len line = prefix_len is_inked line

keep_word : (word : List ℕ) (words : List (List ℕ)) → 1 ≤ length word
    → filter (λ (w : List ℕ). nat_lt 0 (length w)) (word ∷ words) ≡ word ∷ filter
    (λ (w : List ℕ). nat_lt 0 (length w)) words
keep_word word words some = (let t : nat_lt 0 (length word) ≡ true = grind (arith, nat_tests) in rw t refl)

-- the word ends at a blank
ends_at_blank : (line : List ℕ) → inked_len line < length line → 1 ≤ length (word_in line)
    → words_of line ≡ word_in line ∷ words_of (drop (inked_len line) line)
unfolding words_of
ends_at_blank line lt some =
    let stop : is_blank_byte (get_or line (inked_len line) 0) ≡ true =
    not_false (is_blank_byte (get_or line (inked_len line) 0)) (prefix_len_stops is_inked line 0 lt) in
    let at : drop (inked_len line) line ≡ get_or line (inked_len line) 0 ∷ drop (inked_len line + 1) line = drop_more line (inked_len line) 0 lt in
    let after : words_of (drop (inked_len line) line) ≡ words_of (drop (inked_len line + 1) line) = ap words_of at
    ∙ skip_one (get_or line (inked_len line) 0) (drop (inked_len line + 1) line) stop in
    ap (filter (λ (w : List ℕ). nat_lt 0 (length w))) (slice_split_first is_blank_byte line 0 lt)
    ∙ keep_word (word_in line) (slice_split is_blank_byte (drop (inked_len line + 1) line)) some
    ∙ ap (λ (words : List (List ℕ)). word_in line ∷ words) (sym after)

-- the word is the whole line
is_whole : (line : List ℕ) → length line ≤ inked_len line → 1 ≤ length (word_in line) → words_of line ≡ word_in line ∷ words_of (drop (inked_len line) line)
unfolding words_of
is_whole line le some =
    let whole : word_in line ≡ line = take_all (inked_len line) line le in
    let none : All (λ b. is_blank_byte b ≡ false) line = All-from_get_or (λ b. is_blank_byte b ≡ false) line 0
    (λ i lt. not_true (is_blank_byte (get_or line i 0)) (prefix_len_passes is_inked line i 0 (omega arith))) in
    let rest : drop (inked_len line) line ≡ [] = drop_all (inked_len line) line le in
    ap (filter (λ (w : List ℕ). nat_lt 0 (length w))) (slice_split_none is_blank_byte line none)
    ∙ keep_word line [] (omega (arith, ap (λ (l : List ℕ). length l) whole))
    ∙ ap (λ (w : List ℕ). w ∷ []) (sym whole)
    ∙ ap (λ (words : List (List ℕ)). word_in line ∷ words) (sym (ap words_of rest))
  where
    not_true : (t : Bool) → not t ≡ true → t ≡ false
    not_true true e = cc
    not_true false e = refl

-- a word comes first, and the others are those of what is left
pub word_first : (line : List ℕ) → 1 ≤ length (word_in line) → words_of line ≡ word_in line ∷ words_of (drop (length (word_in line)) line)
word_first line some =
    let len : length (word_in line) ≡ inked_len line = length-take-le (inked_len line) line (prefix_len-le-length is_inked line) in
    rw len (elim (cases_lt (inked_len line) (length line)) [ inl lt ↦ ends_at_blank line lt some | inr le ↦ is_whole line le some ])

word_begins : (b : ℕ) (line : List ℕ) → is_blank_byte b ≡ false → 1 ≤ length (word_in (b ∷ line))
word_begins b line e = (let t : is_inked b ≡ true = ap not e in
    let one : inked_len (b ∷ line) ≡ 1 + inked_len line = rw t refl in
    let len = length-take-le (inked_len (b ∷ line)) (b ∷ line)
    (prefix_len-le-length is_inked (b ∷ line)) in omega (arith, len, one))

pub no_word : (line : List ℕ) → length (word_in (drop (blanks_in line) line)) ≡ 0 → words_of line ≡ []
unfolding words_of
no_word [] none = refl
no_word (b ∷ line) none = by_test (is_blank_byte b) refl (no_word line) none
  where
    by_test : (t : Bool) → is_blank_byte b ≡ t → (length (word_in (drop (blanks_in line) line)) ≡ 0 → words_of line
        ≡ []) → length (word_in (drop (cond t (1 + blanks_in line) 0) (b ∷ line))) ≡ 0 → words_of (b ∷ line) ≡ []
    by_test true e ih none = skip_one b line e ∙ ih (let one : 1 + blanks_in line ≡ suc (blanks_in line) = omega
        arith in subst (λ (n : ℕ). length (word_in (drop n (b ∷ line))) ≡ 0) one none)
    by_test false e ih none = absurd (omega (arith, word_begins b line e))

pub blank_words : (line : List ℕ) → is_blank line ≡ true → words_of line ≡ []
unfolding words_of
blank_words [] e = refl
blank_words (b ∷ line) e = by_test (is_blank_byte b) refl (blank_words line) e
  where
    by_test : (t : Bool) → is_blank_byte b ≡ t → (is_blank line ≡ true → words_of line ≡ []) → (t && is_blank line) ≡ true → words_of (b ∷ line) ≡ []
    by_test true t ih e = skip_one b line t ∙ ih e
    by_test false t ih e = cc

pub words_blank : (line : List ℕ) → is_blank line ≡ false → (words_of line ≡ [] → ⊥)
unfolding words_of
words_blank [] e none = cc
words_blank (b ∷ line) e none = by_test (is_blank_byte b) refl (words_blank line) e
  where
    by_test : (t : Bool) → is_blank_byte b ≡ t → (is_blank line ≡ false → (words_of line ≡ [] → ⊥)) → (t && is_blank line) ≡ false → ⊥
    by_test true t ih e = ih e (sym (skip_one b line t) ∙ none)
    by_test false t ih e = (let first = word_first (b ∷ line) (word_begins b line t) in
        let both : word_in (b ∷ line) ∷ words_of (drop (length (word_in (b ∷ line))) (b ∷ line)) ≡ [] =
        sym first ∙ none in cc)

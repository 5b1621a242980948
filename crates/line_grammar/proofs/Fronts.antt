-- What the front of a line says.
use Rattle.std.proofs.Common.{◌≡◌, ℕ, ◌+◌, ◌-◌, ◌^◌, ◌<◌, ◌≤◌, Bool, true, false, cond, eqb, nat_lt, nat_le, ◌&&◌, List, [], ◌∷◌, ◌++◌, length, get_or, take, drop, Option, Some, None, MatchOption, refl, sym, ap, subst, ◌∙◌, arith, codes, ◌≢◌, length-append}
use Rattle.std.proofs.lemmas.Bool.Decides.{nat_tests}
use Rattle.std.proofs.lemmas.Bool.{eqb-true, eq-eqb}
use Rattle.std.proofs.lemmas.Option.{cond_some, some_pair_parts}
use Rattle.std.proofs.lemmas.List.Folds.{length-prefix_len}
use Rattle.std.proofs.lemmas.List.{take-append-drop, get_or-take, take_rest, append_assoc}
use Rattle.std.proofs.lemmas.List.Elements.{All-from_get_or}
use Rattle.std.proofs.lemmas.List.Sums.{prefix_len_passes, prefix_len-le-length, prefix_len_is}
use Rattle.std.proofs.Math.ListN.{get_or-append}
use Rattle.std.proofs.Math.Seq.{take-append_seam, drop-append_seam}
use Rattle.std.specs.Option.{option_map, option_and_then, option_copied}
use denote.Ref.{Bor}
use Rattle.std.specs.List.{prefix_len, All}
use Rattle.std.specs.Char.{is_ascii_digit, IsAsciiDigit}
use Rattle.symk_text.specs.Numbers.{value_of, run_at, number_at}
use Rattle.line_grammar.specs.Numbers.{IsNumber}
use Rattle.line_grammar.specs.Fields.{after, first_number, number_then}

-- Bytes at the front.

pub after_is : (word line rest : List ℕ) → after word line ≡ Some rest → line ≡ word ++ rest
unfolding after
after_is [] line rest e = (let same : line ≡ rest = cc in same)
after_is (w ∷ word) [] rest e = cc
after_is (w ∷ word) (b ∷ line) rest e = by_test (eqb b w) refl e (after_is word line rest)
  where
    by_test : (t : Bool) → eqb b w ≡ t → cond t (after word line) None ≡ Some rest
        → (after word line ≡ Some rest → line ≡ word ++ rest) → b ∷ line ≡ w ∷ word ++ rest
    by_test true t e ih = (let heads : b ≡ w = eqb-true b w t in let tails : line ≡ word ++ rest = ih e in cc)
    by_test false t e ih = cc

pub after_again : (word rest : List ℕ) → after word (word ++ rest) ≡ Some rest
unfolding after
after_again [] rest = refl
after_again (w ∷ word) rest = (let t : eqb w w ≡ true = eq-eqb w w refl in rw t (after_again word rest))

no_after : (word line : List ℕ) → ((rest : List ℕ) → line ≢ word ++ rest) → (o : Option (List ℕ)) → after word line ≡ o → None ≡ o
no_after word line none None e = refl
no_after word line none (Some rest) e = absurd (none rest (after_is word line rest e))

pub stripped : (word line : List ℕ) (r : Option (Bor (List ℕ)))
    → MatchOption r ((rest : List ℕ) → line ≢ word ++ rest) (λ x. line ≡ word ++ x.now)
    → option_copied r ≡ after word line
stripped word line None h = no_after word line h (after word line) refl
stripped word line (Some x) h = sym (ap (after word) h ∙ after_again word x.now)

-- Numbers at the front.

-- no digit comes first
abbrev pub NoDigit : List ℕ → Type 0
NoDigit [] = Unit {0}
NoDigit (b ∷ bytes) = is_ascii_digit b ≡ false

and_parts : (a b : Bool) → (a && b) ≡ true → (a ≡ true) × (b ≡ true)
and_parts true b e = (refl, e)
and_parts false b e = cc

is_digit : (b : ℕ) → is_ascii_digit b ≡ true → IsAsciiDigit b
is_digit b e = grind (arith, nat_tests)

digit_is : (b : ℕ) → IsAsciiDigit b → is_ascii_digit b ≡ true
digit_is b h = grind (arith, nat_tests)

run_digits : (bytes : List ℕ) → All IsAsciiDigit (run_at bytes 0)
run_digits bytes = All-from_get_or IsAsciiDigit (run_at bytes 0) 0 (λ i lt.
    let short : i < prefix_len is_ascii_digit bytes = omega (arith, length-prefix_len is_ascii_digit bytes) in
    rw (get_or-take (prefix_len is_ascii_digit bytes) bytes i 0 short) (is_digit (get_or bytes i 0) (prefix_len_passes is_ascii_digit bytes i 0 short)))

-- a number that is found is spelled there
record Found (bytes : List ℕ) (n end : ℕ) : Type 0 where
  number : IsNumber (take end bytes) n
  some : 1 ≤ end
  within : end ≤ length bytes

found : (bytes : List ℕ) (n end : ℕ) → number_at bytes 0 ≡ Some (n, end) → Found bytes n end
found bytes n end e =
    let run = run_at bytes 0 in
    let len : length run ≡ prefix_len is_ascii_digit bytes = length-prefix_len is_ascii_digit bytes in
    let k = cond_some (nat_le 1 (length run) && nat_le (length run) 20 && nat_lt (value_of run) (2 ^ 64)) (value_of run, 0 + length run) (n, end) e in
    let tests = and_parts (nat_le 1 (length run) && nat_le (length run) 20) (nat_lt (value_of run) (2 ^ 64)) k.0 in
    let two = and_parts (nat_le 1 (length run)) (nat_le (length run) 20) tests.0 in
    let value : value_of run ≡ n = ap (λ (x : ℕ × ℕ). x.0) k.1 in
    let place : 0 + length run ≡ end = ap (λ (x : ℕ × ℕ). x.1) k.1 in
    let same : end ≡ prefix_len is_ascii_digit bytes = omega arith in
    let is : take end bytes ≡ run = ap (λ (k : ℕ). take k bytes) same in
    let t1 : nat_le 1 (length run) ≡ true = two.0 in
    let t2 : nat_le (length run) 20 ≡ true = two.1 in
    let t3 : nat_lt (value_of run) (2 ^ 64) ≡ true = tests.1 in
    let some : 1 ≤ length run = grind (arith, nat_tests) in
    let few : length run ≤ 20 = grind (arith, nat_tests) in
    let low : value_of run < 2 ^ 64 = grind (arith, nat_tests) in
    record {
      number = subst (λ (z : List ℕ). IsNumber z n) (sym is)
          (record {
            some = some;
            few = few;
            each = run_digits bytes;
            value = value;
            small =
                subst (λ (z : ℕ). z < 2 ^ 64) value low;
          });
      some = omega arith;
      within = omega (arith, prefix_len-le-length is_ascii_digit bytes);
    }

-- the digits that come first, and what follows them
pub record Leads (bytes : List ℕ) (n : ℕ) (rest : List ℕ) : Type 0 where
  pub digits : List ℕ
  pub number : IsNumber digits n
  pub whole : bytes ≡ digits ++ rest

pub first_is : (bytes : List ℕ) (n : ℕ) (rest : List ℕ) → first_number bytes ≡ Some (n, rest) → Leads bytes n rest
unfolding first_number
first_is bytes n rest e = by_found (number_at bytes 0) refl e
  where
    by_found : (o : Option (ℕ × ℕ)) → number_at bytes 0 ≡ o → option_map {U = ℕ × List ℕ} (λ x. (x.0, drop x.1 bytes)) o ≡ Some (n, rest) → Leads bytes n rest
    by_found None t e = cc
    by_found (Some (k, end)) t e =
        let same = some_pair_parts k n (drop end bytes) rest e in
        let f = found bytes k end t in
        record {
          digits = take end bytes;
          number = subst (λ (z : ℕ). IsNumber (take end bytes) z) same.0 f.number;
          whole = sym (take-append-drop end bytes) ∙ ap (λ (z : List ℕ). take end bytes ++ z) same.1;
        }

digits_first : (digits rest : List ℕ) → All IsAsciiDigit digits → NoDigit rest → prefix_len is_ascii_digit (digits ++ rest) ≡ length digits
digits_first digits rest each none =
    prefix_len_is is_ascii_digit (digits ++ rest) (length digits) 0 (omega (arith, length-append digits rest))
    (λ k lt. rw (get_or-append digits rest 0 k lt) (digit_is (get_or digits k 0) (each k 0 lt)))
    (λ lt. no_digit digits rest none (omega (arith, length-append digits rest)))
  where
    no_digit : (digits rest : List ℕ) → NoDigit rest → 1 ≤ length rest → is_ascii_digit (get_or (digits ++ rest) (length digits) 0) ≡ false
    no_digit [] [] none some = absurd (omega arith)
    no_digit [] (b ∷ rest) none some = none
    no_digit (d ∷ digits) rest none some = no_digit digits rest none some

pub number_again : (digits rest : List ℕ) (n : ℕ) → IsNumber digits n → NoDigit rest → number_at (digits ++ rest) 0 ≡ Some (n, 0 + length digits)
number_again digits rest n is none =
    let run : run_at (digits ++ rest) 0 ≡ digits = ap (λ (k : ℕ). take k (digits ++ rest))
    (digits_first digits rest is.each none) ∙ take-append_seam digits rest in
    let some : 1 ≤ length digits = is.some in
    let few : length digits ≤ 20 = is.few in
    let small : n < 2 ^ 64 = is.small in
    let t1 : nat_le 1 (length digits) ≡ true = grind (arith, nat_tests) in
    let t2 : nat_le (length digits) 20 ≡ true = grind (arith, nat_tests) in
    let t3 : nat_lt n (2 ^ 64) ≡ true = grind (arith, nat_tests) in
    rw (run, is.value, t1, t2, t3) refl

pub first_again : (digits rest : List ℕ) (n : ℕ) → IsNumber digits n → NoDigit rest → first_number (digits ++ rest) ≡ Some (n, rest)
unfolding first_number
first_again digits rest n is none =
    let left : drop (0 + length digits) (digits ++ rest) ≡ rest =
    (let z : 0 + length digits ≡ length digits = omega arith in ap (λ (k : ℕ). drop k (digits ++ rest)) z
    ∙ drop-append_seam digits rest) in
    rw (number_again digits rest n is none) (ap (λ (z : List ℕ). Some (n, z)) left)

pub first_found : (bytes : List ℕ) (n end : ℕ) → Some (n, end) ≡ number_at bytes 0 → Some (n, take (length bytes - end) (drop end bytes)) ≡ first_number bytes
unfolding first_number
first_found bytes n end e = rw (take_rest bytes end, ← e) refl

pub first_missing : (bytes : List ℕ) → None ≡ number_at bytes 0 → None ≡ first_number bytes
unfolding first_number
first_missing bytes e = rw (← e) refl

-- Bytes and a number.

-- the line is these bytes, a number, and the rest
pub record Follows (word line : List ℕ) (n : ℕ) (rest : List ℕ) : Type 0 where
  pub digits : List ℕ
  pub number : IsNumber digits n
  pub whole : line ≡ word ++ digits ++ rest

pub number_follows : (word line : List ℕ) (n : ℕ) (rest : List ℕ) → number_then word line ≡ Some (n, rest) → Follows word line n rest
number_follows word line n rest e = by_after (after word line) refl e
  where
    by_after : (o : Option (List ℕ)) → after word line ≡ o → option_and_then first_number o ≡ Some (n, rest) → Follows word line n rest
    by_after None t e = cc
    by_after (Some bytes) t e =
        let f = first_is bytes n rest e in
        record {
          digits = f.digits;
          number = f.number;
          whole = after_is word line bytes t
              ∙ ap (λ (z : List ℕ). word ++ z) f.whole ∙ sym (append_assoc word f.digits rest);
        }

pub follows_number : (word digits : List ℕ) (n : ℕ) (rest : List ℕ) → IsNumber digits n → NoDigit rest
    → number_then word (word ++ digits ++ rest) ≡ Some (n, rest)
follows_number word digits n rest is none =
    ap (λ (z : List ℕ). number_then word z) (append_assoc word digits rest)
    ∙ ap (λ (o : Option (List ℕ)). option_and_then first_number o) (after_again word (digits ++ rest))
    ∙ first_again digits rest n is none

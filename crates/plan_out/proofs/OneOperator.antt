-- One operator of a line.
use Rattle.std.proofs.Common.{◌≡◌, ℕ, ◌^◌, ◌<◌, ◌≤◌, true, false, nat_lt, List, ◌++◌, Option, Some, None, refl, ap, subst, ◌∙◌, arith, codes}
use Rattle.std.proofs.lemmas.Bool.Decides.{nat_tests}
use Rattle.std.proofs.lemmas.Option.{cond_some}
use Rattle.std.specs.Option.{option_and_then}
use Rattle.line_grammar.specs.Numbers.{IsNumber}
use Rattle.line_grammar.specs.Fields.{number_then}
use Rattle.line_grammar.proofs.Fronts.{NoDigit, Follows, number_follows, follows_number}
use Rattle.plan_out.specs.Reading.{if_operator, operator_then}

pub operator_found : (bytes : List ℕ) (n : ℕ) (rest : List ℕ) → Some (n, rest) ≡ number_then (codes " ") bytes
    → n < 2 ^ 32 → Some (n, rest) ≡ operator_then bytes
unfolding operator_then
operator_found bytes n rest e small = (let t : nat_lt n (2 ^ 32) ≡ true = grind (arith, nat_tests) in rw (← e, t) refl)

pub operator_large : (bytes : List ℕ) (n : ℕ) (rest : List ℕ) → Some (n, rest) ≡ number_then (codes " ") bytes → 2 ^ 32 ≤ n → None ≡ operator_then bytes
unfolding operator_then
operator_large bytes n rest e large = (let t : nat_lt n (2 ^ 32) ≡ false = grind (arith, nat_tests) in rw (← e, t) refl)

pub operator_missing : (bytes : List ℕ) → None ≡ number_then (codes " ") bytes → None ≡ operator_then bytes
unfolding operator_then
operator_missing bytes e = rw (← e) refl

-- the bytes are a space, an operator, and the rest
pub record Operator (bytes : List ℕ) (n : ℕ) (rest : List ℕ) : Type 0 where
  pub follows : Follows (codes " ") bytes n rest
  pub small : n < 2 ^ 32

pub operator_is : (bytes : List ℕ) (n : ℕ) (rest : List ℕ) → operator_then bytes ≡ Some (n, rest) → Operator bytes n rest
unfolding operator_then
operator_is bytes n rest e = by_number (number_then (codes " ") bytes) refl e
  where
    by_number : (o : Option (ℕ × List ℕ)) → number_then (codes " ") bytes ≡ o → option_and_then if_operator o ≡ Some (n, rest) → Operator bytes n rest
    by_number None t e = cc
    by_number (Some x) t e =
        let k = cond_some (nat_lt x.0 (2 ^ 32)) x (n, rest) e in
        let test : nat_lt x.0 (2 ^ 32) ≡ true = k.0 in
        let small : x.0 < 2 ^ 32 = grind (arith, nat_tests) in
        let first : x.0 ≡ n = ap (λ (z : ℕ × List ℕ). z.0) k.1 in
        record {
          follows = number_follows (codes " ") bytes n rest (t ∙ ap (λ (z : ℕ × List ℕ). Some z) k.1);
          small =
              subst (λ (z : ℕ). z < 2 ^ 32) first small;
        }

pub operator_again : (digits : List ℕ) (n : ℕ) (rest : List ℕ) → IsNumber digits n → NoDigit rest → n < 2 ^ 32
    → operator_then (codes " " ++ digits ++ rest) ≡ Some (n, rest)
unfolding operator_then
operator_again digits n rest is none small =
    let t : nat_lt n (2 ^ 32) ≡ true = grind (arith, nat_tests) in
    ap (λ (o : Option (ℕ × List ℕ)). option_and_then if_operator o) (follows_number (codes " ") digits n rest is none) ∙ (rw t refl)

-- A line of bytes and one number.
use Rattle.std.proofs.Common.{◌≡◌, ℕ, Bool, true, false, cond, eqb, List, [], ◌∷◌, ◌++◌, length, Option, Some, None, refl, sym, ap, subst, ◌∙◌, arith}
use Rattle.std.proofs.lemmas.List.{append-nil}
use Rattle.std.proofs.lemmas.Bool.{eqb-true, eq-eqb}
use Rattle.std.specs.Option.{option_map_or, option_and_then}
use Rattle.line_grammar.specs.Numbers.{IsNumber, IsNumbered}
use Rattle.line_grammar.specs.Fields.{number_then, if_alone, number_after, is_numbered}
use Rattle.line_grammar.proofs.Fronts.{number_follows, follows_number}

pub alone_is : (word : List ℕ) (n : ℕ) (line : List ℕ) → number_after word line ≡ Some n → IsNumbered word n line
alone_is word n line e = by_number (number_then word line) refl e
  where
    by_rest : (k : ℕ) (rest : List ℕ) → number_then word line ≡ Some (k, rest) → (t : Bool) → eqb (length rest) 0 ≡ t
        → cond t (Some k) None ≡ Some n → IsNumbered word n line
    by_rest k [] t true u e =
        let f = number_follows word line k [] t in
        let same : k ≡ n = cc in
        (f.digits, subst (λ (z : ℕ). IsNumber f.digits z) same f.number, f.whole ∙ append-nil (word ++ f.digits))
    by_rest k (b ∷ rest) t true u e = absurd (let z : length (b ∷ rest) ≡ 0 = eqb-true (length (b ∷ rest)) 0 u in omega arith)
    by_rest k rest t false u e = cc

    by_number : (o : Option (ℕ × List ℕ)) → number_then word line ≡ o → option_and_then if_alone o ≡ Some n → IsNumbered word n line
    by_number None t e = cc
    by_number (Some (k, rest)) t e = by_rest k rest t (eqb (length rest) 0) refl e

pub alone_again : (word : List ℕ) (n : ℕ) (line : List ℕ) → IsNumbered word n line → number_after word line ≡ Some n
alone_again word n line (digits, is, whole) =
    let e : number_then word line ≡ Some (n, []) = ap (λ (z : List ℕ). number_then word z)
    (whole ∙ sym (append-nil (word ++ digits))) ∙ follows_number word digits n [] is tt in
    ap (λ (o : Option (ℕ × List ℕ)). option_and_then if_alone o) e

-- the test that compares the number
pub numbered_is : (word : List ℕ) (n : ℕ) (line : List ℕ) → is_numbered word n line ≡ true → IsNumbered word n line
numbered_is word n line e = by_number (number_after word line) refl e
  where
    by_number : (o : Option ℕ) → number_after word line ≡ o → option_map_or (λ k. eqb k n) o false ≡ true → IsNumbered word n line
    by_number None t e = cc
    by_number (Some k) t e = subst (λ (z : ℕ). IsNumbered word z line) (eqb-true k n e) (alone_is word k line t)

pub numbered_again : (word : List ℕ) (n : ℕ) (line : List ℕ) → IsNumbered word n line → is_numbered word n line ≡ true
numbered_again word n line h = ap (λ (o : Option ℕ). option_map_or (λ k. eqb k n) o false) (alone_again word n line h) ∙ eq-eqb n n refl

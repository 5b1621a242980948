-- Names are lines.
use Rattle.std.proofs.Common.{◌≡◌, ℕ, Bool, true, false, cond, eqb, ◌||◌, zero, suc, Ok, subst, List, [], ◌∷◌, Some, None, refl, ap, arith}
use Rattle.std.proofs.lemmas.Bool.Decides.{nat_tests}
use Rattle.std.specs.List.{list_any, Contains}
use Rattle.symk_text.specs.Lines.{IsLine}
use Rattle.sas_reader.specs.Reading.{a_name, name_at}
use Rattle.line_grammar.specs.Reading.{picked}
use Rattle.sas_reader.specs.declared.fault.Shape.TheVariants as shape

abbrev is_feed : ℕ → Bool
is_feed byte = eqb byte 10

any_contains : (line : List ℕ) → list_any is_feed line ≡ true → Contains line 10
any_contains [] e = cc
any_contains (b ∷ line) e = by_test (is_feed b) refl (any_contains line) e
  where
    by_test : (t : Bool) → is_feed b ≡ t → (list_any is_feed line ≡ true → Contains line 10) → (t || list_any is_feed line) ≡ true → Contains (b ∷ line) 10
    by_test true t ih e = (let same : b ≡ 10 = grind (arith, nat_tests) in (0, omega arith, same))
    by_test false t ih e = (let k = ih e in (suc k.0, omega (arith, k.1), k.2))

pub line_is_name : (line : List ℕ) → IsLine line → a_name line ≡ Some line
line_is_name line h = by_test (list_any is_feed line) refl
  where
    by_test : (t : Bool) → list_any is_feed line ≡ t → cond t None (Some line) ≡ Some line
    by_test true t = absurd (h (any_contains line t))
    by_test false t = refl

pub name_read : (lines rest : List (List ℕ)) (line name : List ℕ) → lines ≡ line ∷ rest → IsLine line → name ≡ line → name_at tt lines ≡ Ok (name, rest)
name_read lines rest line name e h same = rw (e, same) (ap (picked shape.Name line rest) (line_is_name line h))

none_contained : (line : List ℕ) → list_any is_feed line ≡ false → Contains line 10 → ⊥
none_contained [] e k = absurd (omega (arith, k.1))
none_contained (b ∷ line) e k = by_test (is_feed b) refl (none_contained line) e k
  where
    by_test : (t : Bool) → is_feed b ≡ t → (list_any is_feed line ≡ false → Contains line 10 → ⊥)
        → (t || list_any is_feed line) ≡ false → Contains (b ∷ line) 10 → ⊥
    by_test true t ih e k = cc
    by_test false t ih e (zero, k, same) = (let u : is_feed b ≡ true = grind (arith, nat_tests) in cc)
    by_test false t ih e (suc n, k, same) = ih e (n, omega arith, same)

-- what the test of a name takes is the line, which has no LF
pub name_is_line : (line name : List ℕ) → a_name line ≡ Some name → IsLine name × (line ≡ name)
name_is_line line name e = by_test (list_any is_feed line) refl e
  where
    by_test : (t : Bool) → list_any is_feed line ≡ t → cond t None (Some line) ≡ Some name → IsLine name × (line ≡ name)
    by_test true t e = cc
    by_test false t e = (let same : line ≡ name = cc in (subst IsLine same (none_contained line t), same))

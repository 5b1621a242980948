-- The operators of a line, read one after the other.
use Rattle.std.proofs.Common.{◌≡◌, ℕ, zero, suc, ◌<◌, ◌≤◌, true, false, eqb, List, [], ◌∷◌, ◌++◌, length, Option, Some, None, refl, sym, ap, ◌∙◌, arith, codes, append_assoc, length-append}
use Rattle.std.proofs.lemmas.List.{append-nil, nil_from_length}
use Rattle.std.proofs.lemmas.Bool.Decides.{nat_tests}
use Rattle.std.specs.Option.{option_map}
use Rattle.plan_out.specs.Reading.{operator_then, spaced_in}
use Rattle.plan_out.proofs.OneOperator.{operator_is}

pub operator_shorter : (bytes : List ℕ) (n : ℕ) (rest : List ℕ) → Some (n, rest) ≡ operator_then bytes → length rest < length bytes
operator_shorter bytes n rest e =
    let o = operator_is bytes n rest (sym e) in
    let some : 1 ≤ length o.follows.digits = o.follows.number.some in
    omega (arith, ap (λ (z : List ℕ). length z) o.follows.whole, length-append (codes " " ++ o.follows.digits) rest)

-- what was read, and what is left to read
pub record Left (total : Option (List ℕ)) (plan rest : List ℕ) : Type 0 where
  pub most : ℕ
  pub enough : length rest ≤ most
  pub so_far : option_map (λ (ops : List ℕ). plan ++ ops) (spaced_in most rest) ≡ total

pub begun : (spaced : List ℕ) → Left (spaced_in (length spaced) spaced) [] spaced
begun spaced = record { most = length spaced; enough = omega arith; so_far = same (spaced_in (length spaced) spaced) }
  where
    same : (o : Option (List ℕ)) → option_map (λ (ops : List ℕ). [] ++ ops) o ≡ o
    same None = refl
    same (Some ops) = refl

regroup : (plan : List ℕ) (op : ℕ) (o : Option (List ℕ)) → option_map (λ (ops : List ℕ). plan ++ ops)
    (option_map (λ (ops : List ℕ). op ∷ ops) o) ≡ option_map (λ (ops : List ℕ). (plan ++ op ∷ []) ++ ops) o
regroup plan op None = refl
regroup plan op (Some ops) = ap (λ (z : List ℕ). Some z) (sym (append_assoc plan (op ∷ []) ops))

one : (most : ℕ) (bytes : List ℕ) (op : ℕ) (after : List ℕ) → 1 ≤ length bytes
    → operator_then bytes ≡ Some (op, after) → spaced_in (suc most) bytes ≡ option_map (λ (ops : List ℕ). op ∷ ops)
    (spaced_in most after)
unfolding spaced_in
one most [] op after some e = absurd (omega arith)
one most (b ∷ bytes) op after some e = rw e refl

none : (most : ℕ) (bytes : List ℕ) → 1 ≤ length bytes → operator_then bytes ≡ None → spaced_in (suc most) bytes ≡ None
unfolding spaced_in
none most [] some e = absurd (omega arith)
none most (b ∷ bytes) some e = rw e refl

nothing : (most : ℕ) → spaced_in most [] ≡ Some []
unfolding spaced_in
nothing most = refl

pub goes_on : (total : Option (List ℕ)) (plan rest : List ℕ) (op : ℕ) (after : List ℕ) → 1 ≤ length rest
    → Some (op, after) ≡ operator_then rest → Left total plan rest → Left total (plan ++ op ∷ []) after
goes_on total plan rest op after some e left = by_most left.most left.enough left.so_far
  where
    by_most : (most : ℕ) → length rest ≤ most → option_map (λ (ops : List ℕ). plan ++ ops) (spaced_in most rest) ≡ total → Left total (plan ++ op ∷ []) after
    by_most zero enough so_far = absurd (omega arith)
    by_most (suc most) enough so_far =
        let short = operator_shorter rest op after e in
        record {
          most = most;
          enough = omega arith;
          so_far = sym (regroup plan op (spaced_in most after))
              ∙ ap (λ (o : Option (List ℕ)). option_map (λ (ops : List ℕ). plan ++ ops) o)
              (sym (one most rest op after some (sym e))) ∙ so_far;
        }

pub breaks_off : (total : Option (List ℕ)) (plan rest : List ℕ) → 1 ≤ length rest → None ≡ operator_then rest → Left total plan rest → None ≡ total
breaks_off total plan rest some e left = by_most left.most left.enough left.so_far
  where
    by_most : (most : ℕ) → length rest ≤ most → option_map (λ (ops : List ℕ). plan ++ ops) (spaced_in most rest) ≡ total → None ≡ total
    by_most zero enough so_far = absurd (omega arith)
    by_most (suc most) enough so_far = ap (λ (o : Option (List ℕ)). option_map (λ (ops : List ℕ). plan ++ ops) o) (sym (none most rest some (sym e))) ∙ so_far

pub all_read : (total : Option (List ℕ)) (plan rest : List ℕ) → length rest ≡ 0 → Left total plan rest → Some plan ≡ total
all_read total plan rest empty left =
    let nil : rest ≡ [] = nil_from_length rest empty in
    let e : spaced_in left.most rest ≡ Some [] = ap (λ (z : List ℕ). spaced_in left.most z) nil ∙ nothing left.most in
    ap (λ (z : List ℕ). Some z) (sym (append-nil plan)) ∙ ap (λ (o : Option (List ℕ)). option_map (λ (ops : List ℕ). plan ++ ops) o) (sym e) ∙ left.so_far

pub is_some : (n : ℕ) → eqb n 0 ≡ false → 1 ≤ n
is_some n e = grind (arith, nat_tests)

pub is_none : (n : ℕ) → eqb n 0 ≡ true → n ≡ 0
is_none n e = grind (arith, nat_tests)

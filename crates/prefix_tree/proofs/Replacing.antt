-- The first entry gives way to others, in whatever order a heap keeps them; a list that is lent and written back.
use Rattle.std.proofs.Common.{◌≡◌, ℕ, zero, suc, ◌<◌, true, false, List, [], ◌∷◌, ◌++◌, length, take, drop, slice_index_or, Option, Some, None, IsSome, IfSome, Result, Ok, Err, OnOk, IsOk, refl, ap, sym, ◌∙◌, subst, arith}
use Rattle.std.specs.List.Sorted.{IsPermutation}
use Rattle.std.proofs.lemmas.List.Sorted.{IsPermutation-append, IsPermutation-append_left, IsPermutation-append_right, IsPermutation-append_comm, IsPermutation-middle, IsPermutation-refl, IsPermutation-trans, IsPermutation-cons}

pub any_default : {X : Type 0} (xs : List X) (i : ℕ) (d e : X) → i < length xs → slice_index_or xs i d ≡ slice_index_or xs i e
any_default [] i d e b = absurd (omega arith)
any_default (x ∷ xs) zero d e b = refl
any_default (x ∷ xs) (suc i) d e b = any_default xs i d e (omega arith)

pub replaced : {X : Type 0} {old kids rest more new : List X} {x e : X} → 0 < length old → x ≡ slice_index_or old 0 x
    → e ≡ slice_index_or old 0 e → IsPermutation old (x ∷ rest) → IsPermutation kids more
    → IsPermutation (rest ++ more) new → IsPermutation (old ++ kids) (e ∷ new)
replaced {X} {old} {kids} {rest} {more} {new} {x} {e} some top first out in_ joined =
    let same : x ≡ e = top ∙ (any_default old 0 x e some ∙ sym first) in
    subst (λ (y : X). IsPermutation (old ++ kids) (y ∷ new)) same
    (IsPermutation-trans (old ++ kids) (x ∷ (rest ++ more)) (x ∷ new)
    (IsPermutation-append old (x ∷ rest) kids more out in_) (IsPermutation-cons x (rest ++ more) new joined))

-- the first entry gives way to the first of the others
pub replaced_first : {X : Type 0} (old : List X) {kids all more put new : List X} {x e : X} → 0 < length old
    → e ≡ slice_index_or old 0 e → IsPermutation kids all → IsPermutation all (x ∷ more)
    → IsPermutation (x ∷ drop 1 old) put → IsPermutation (put ++ more) new → IsPermutation (old ++ kids) (e ∷ new)
replaced_first [] some first in_ out top joined = absurd (omega arith)
replaced_first {X} (a ∷ old) {kids} {all} {more} {put} {new} {x} some first in_ out top joined =
    subst (λ (b : X). IsPermutation (a ∷ (old ++ kids)) (b ∷ new)) (sym first)
    (IsPermutation-cons a (old ++ kids) new
    (IsPermutation-trans (old ++ kids) (old ++ x ∷ more) new (IsPermutation-append_right old kids (x ∷ more) (IsPermutation-trans kids all (x ∷ more) in_ out))
    (IsPermutation-trans (old ++ x ∷ more) (x ∷ (old ++ more)) new (IsPermutation-middle old x more)
    (IsPermutation-trans (x ∷ (old ++ more)) (put ++ more) new (IsPermutation-append_left more (x ∷ old) put top) joined))))

-- it gives way to none
pub replaced_none : {X : Type 0} (old kids rest : List X) (x e : X) → 0 < length old → length kids ≡ 0
    → x ≡ slice_index_or old 0 x → e ≡ slice_index_or old 0 e → IsPermutation old (x ∷ rest)
    → IsPermutation (old ++ kids) (e ∷ rest)
replaced_none old [] rest x e some none top first out = replaced some top first out
    (IsPermutation-refl []) (IsPermutation-append_comm rest [])
replaced_none old (k ∷ kids) rest x e some none top first out = absurd (omega arith)

pub written_back : {X : Type 0} (xs ys : List X) (n : ℕ) → n ≡ length xs → take n (xs ++ ys) ≡ xs
written_back [] ys zero e = refl
written_back [] ys (suc n) e = absurd (omega arith)
written_back (x ∷ xs) ys zero e = absurd (omega arith)
written_back {X} (x ∷ xs) ys (suc n) e = ap (λ (l : List X). x ∷ l) (written_back xs ys n (omega arith))

never : false ≡ true → ⊥
never e = cc

pub on_ok : {X E P : Type 0} (r : Result X E) → OnOk r P → IsOk r → P
on_ok (Ok x) h ok = h
on_ok (Err e) h ok = absurd (never ok)

-- the first entry was taken, and none came
pub replaced_alone : {X : Type 0} (old kids rest : List X) (r : Option X) (e : X) → 0 < length old → length kids ≡ 0
    → e ≡ slice_index_or old 0 e → IsSome r → IfSome r (λ x. x ≡ slice_index_or old 0 x)
    → IfSome r (λ x. IsPermutation old (x ∷ rest)) → IsPermutation (old ++ kids) (e ∷ rest)
replaced_alone old kids rest None e some none first is top out = absurd (never is)
replaced_alone old kids rest (Some x) e some none first is top out = replaced_none old kids rest x e some none top first out

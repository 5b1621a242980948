-- The rows of a block are read exactly.
use Rattle.std.proofs.Common.{◌≡◌, ℕ, zero, suc, ◌+◌, ◌-◌, ◌^◌, ◌<◌, ◌≤◌, Bool, true, false, cond, eqb, nat_le, ◌&&◌, List, [], ◌∷◌, ◌++◌, length, get_or, take, drop, Option, Some, None, refl, sym, ap, subst, ◌∙◌, arith, codes, decimal, length-append}
use Rattle.std.proofs.lemmas.List.{take_more, take_all}
use Rattle.std.proofs.lemmas.Option.{cond_some}
use Rattle.std.proofs.lemmas.Bool.{eqb-true, eq-eqb}
use Rattle.std.proofs.lemmas.Bool.Decides.{nat_tests}
use Rattle.std.proofs.lemmas.Slice.Eq.{bytes_eq-Decides}
use Rattle.std.proofs.lemmas.List.Elements.{All-nil, All-cons, All-head, All-tail}
use Rattle.std.proofs.Math.Seq.{take-append_seam, get_or-append_seam}
use Rattle.std.specs.Option.{option_map, option_and_then}
use Rattle.std.specs.Str.{bytes_eq}
use Rattle.std.specs.List.{All}
use Rattle.line_grammar.proofs.Exact as grammar
use Rattle.line_grammar.proofs.Joining.{Always}
use Rattle.line_grammar.specs.Fields.{after, number_then, is_numbered}
use Rattle.line_grammar.proofs.Fronts.{NoDigit, after_is, after_again, number_follows, follows_number}
use Rattle.line_grammar.proofs.Alone.{numbered_is, numbered_again}
use Rattle.line_grammar.proofs.Decimals.{decimal_number}
use Rattle.plan_out.specs.Plans.{AreSpaced, cost_word, PlanRow, plan, ops, step, cost, IsPlanRowSpelled}
use Rattle.plan_out.specs.Reading.{operator_then, spaced_in, plan_in, ops_in, step_in, with_word, cost_in}
use Rattle.plan_out.proofs.OneOperator.{operator_is, operator_again}
use Rattle.plan_out.proofs.Spaced.{operator_shorter}

abbrev pub shape_of : PlanRow → Unit {0}
shape_of _ = tt

abbrev pub RowIs : {X : Type 0} → (List ℕ → Option X) → (X → PlanRow) → (X → Type 0) → Type 0
RowIs test row F = grammar.RowIs shape_of IsPlanRowSpelled tt test row F

-- The line that begins a block.

pub plan_is : (i : ℕ) → i < 2 ^ 64 → RowIs (plan_in i) (λ _. plan i) Always
plan_is i small = record {
  shaped = λ x. refl;
  reads = λ l x e. (tt, numbered_is (codes "; plan ") i l (cond_some (is_numbered (codes "; plan ") i l) tt x e).0);
  again = λ l x f h. (let t = numbered_again (codes "; plan ") i l h in rw t refl);
  sample = (
    codes "; plan " ++ decimal i,
    tt,
    (let t = numbered_again (codes "; plan ") i
        (codes "; plan " ++ decimal i) (decimal i, decimal_number i small, refl) in rw t refl),
  );
}

-- The operators.

abbrev pub IsSmall : ℕ → Type 0
IsSmall op = op < 2 ^ 32

no_digit : (p bytes : List ℕ) → AreSpaced p bytes → NoDigit bytes
no_digit [] bytes h = subst NoDigit (sym h) tt
no_digit (op ∷ p) bytes h = subst NoDigit (sym h.4) refl

spaced_is : (most : ℕ) (bytes p : List ℕ) → spaced_in most bytes ≡ Some p → All IsSmall p × AreSpaced p bytes
unfolding spaced_in
spaced_is most [] p e = (let same : [] ≡ p = cc in subst (λ (z : List ℕ). All IsSmall z × AreSpaced z []) same (All-nil IsSmall, refl))
spaced_is zero (b ∷ bytes) p e = cc
spaced_is (suc most) (b ∷ bytes) p e = by_operator (operator_then (b ∷ bytes)) refl (λ rest q. spaced_is most rest q) e
  where
    by_others : (op : ℕ) (rest : List ℕ) → operator_then (b ∷ bytes) ≡ Some (op, rest) → (o : Option (List ℕ))
        → ((q : List ℕ) → o ≡ Some q → All IsSmall q × AreSpaced q rest)
        → option_map (λ (q : List ℕ). op ∷ q) o ≡ Some p → All IsSmall p × AreSpaced p (b ∷ bytes)
    by_others op rest t None ih e = cc
    by_others op rest t (Some q) ih e =
        let k = operator_is (b ∷ bytes) op rest t in
        let h = ih q refl in
        let same : op ∷ q ≡ p = cc in
        subst (λ (z : List ℕ). All IsSmall z × AreSpaced z (b ∷ bytes)) same
        (All-cons IsSmall op q k.small h.0, (k.follows.digits, rest, k.follows.number, h.1, k.follows.whole))

    by_operator : (o : Option (ℕ × List ℕ)) → operator_then (b ∷ bytes) ≡ o
        → ((rest q : List ℕ) → spaced_in most rest ≡ Some q → All IsSmall q × AreSpaced q rest)
        → option_and_then (λ x. option_map (λ (q : List ℕ). x.0 ∷ q) (spaced_in most x.1)) o ≡ Some p
        → All IsSmall p × AreSpaced p (b ∷ bytes)
    by_operator None t ih e = cc
    by_operator (Some (op, rest)) t ih e = by_others op rest t (spaced_in most rest) (ih rest) e

one_more : (most : ℕ) (bytes : List ℕ) (op : ℕ) (rest p : List ℕ) → operator_then bytes ≡ Some (op, rest)
    → length bytes ≤ most → (length rest < length bytes → (less : ℕ) → length rest ≤ less
    → spaced_in less rest ≡ Some p) → 1 ≤ length bytes → spaced_in most bytes ≡ Some (op ∷ p)
unfolding spaced_in
one_more most [] op rest p e enough others some = absurd (omega arith)
one_more zero (b ∷ bytes) op rest p e enough others some = absurd (omega arith)
one_more (suc most) (b ∷ bytes) op rest p e enough others some =
    let short = operator_shorter (b ∷ bytes) op rest (sym e) in
    let h : spaced_in most rest ≡ Some p = others short most (omega arith) in
    rw (e, h) refl

nothing : (most : ℕ) → spaced_in most [] ≡ Some []
unfolding spaced_in
nothing most = refl

spaced_again : (p bytes : List ℕ) (most : ℕ) → AreSpaced p bytes → All IsSmall p → length bytes ≤ most → spaced_in most bytes ≡ Some p
spaced_again [] bytes most h small enough = ap (λ (z : List ℕ). spaced_in most z) h ∙ nothing most
spaced_again (op ∷ p) bytes most h small enough =
    let digits = h.0 in
    let rest = h.1 in
    let e : operator_then bytes ≡ Some (op, rest) = ap operator_then h.4
    ∙ operator_again digits op rest h.2 (no_digit p rest h.3) (All-head IsSmall op p small) in
    one_more most bytes op rest p e enough (λ short less fits. spaced_again p rest less h.3
    (All-tail IsSmall op p small) fits) (omega (arith, operator_shorter bytes op rest (sym e)))

pub ops_is : RowIs ops_in ops (All IsSmall)
ops_is = record {
  shaped = λ x. refl;
  reads = λ l p e. by_after l p (after (codes "; ops") l) refl e;
  again = λ l p f h. ap ops_in h.2 ∙ ap (λ (o : Option (List ℕ)). option_and_then
      (λ (spaced : List ℕ). spaced_in (length spaced) spaced) o) (after_again (codes "; ops") h.0)
      ∙ spaced_again p h.0 (length h.0) h.1 f (omega arith);
  sample = (
    codes "; ops",
    [],
    ap (λ (o : Option (List ℕ)). option_and_then
        (λ (spaced : List ℕ). spaced_in (length spaced) spaced) o) (after_again (codes "; ops") []) ∙ nothing 0,
  );
}
  where
    by_after : (l p : List ℕ) (o : Option (List ℕ)) → after (codes "; ops") l ≡ o
        → option_and_then (λ (spaced : List ℕ). spaced_in (length spaced) spaced) o ≡ Some p
        → All IsSmall p × IsPlanRowSpelled (ops p) l
    by_after l p None t e = cc
    by_after l p (Some spaced) t e = (let h = spaced_is (length spaced) spaced p e in (h.0, (spaced, h.1, after_is (codes "; ops") l spaced t)))

-- One step.

and_parts : (a b : Bool) → (a && b) ≡ true → (a ≡ true) × (b ≡ true)
and_parts true b e = (refl, e)
and_parts false b e = cc

-- the bytes but the last, and the last
last_apart : (bytes : List ℕ) → 1 ≤ length bytes → bytes ≡ take (length bytes - 1) bytes ++ get_or bytes (length bytes - 1) 0 ∷ []
last_apart bytes some =
    let k : (length bytes - 1) + 1 ≡ length bytes = omega arith in
    sym (take_all (length bytes) bytes (omega arith)) ∙ ap (λ (n : ℕ). take n bytes) (sym k) ∙ take_more bytes (length bytes - 1) 0 (omega arith)

name_between : (l name : List ℕ) → step_in l ≡ Some name → l ≡ codes "(" ++ name ++ codes ")"
name_between l name e =
    let k = cond_some (nat_le 2 (length l) && eqb (get_or l 0 0) 40 && eqb (get_or l (length l - 1) 0) 41) (take (length l - 2) (drop 1 l)) name e in
    let tests = and_parts (nat_le 2 (length l) && eqb (get_or l 0 0) 40) (eqb (get_or l (length l - 1) 0) 41) k.0 in
    let two = and_parts (nat_le 2 (length l)) (eqb (get_or l 0 0) 40) tests.0 in
    parted l (long (length l) two.0) (eqb-true (get_or l 0 0) 40 two.1) (eqb-true (get_or l (length l - 1) 0) 41 tests.1) k.1
  where
    long : (n : ℕ) → nat_le 2 n ≡ true → 2 ≤ n
    long n e = grind (arith, nat_tests)

    parted : (l : List ℕ) → 2 ≤ length l → get_or l 0 0 ≡ 40 → get_or l (length l - 1) 0 ≡ 41
        → take (length l - 2) (drop 1 l) ≡ name → l ≡ 40 ∷ (name ++ 41 ∷ [])
    parted [] long first last is = absurd (omega arith)
    parted (b ∷ []) long first last is = absurd (omega arith)
    parted (b ∷ c ∷ bytes) long first last is =
        let rest : List ℕ = c ∷ bytes in
        let n : length (b ∷ rest) - 2 ≡ length rest - 1 = omega arith in
        let m : length (b ∷ rest) - 1 ≡ suc (length rest - 1) = omega arith in
        let front : take (length rest - 1) rest ≡ name = ap (λ (k : ℕ). take k rest) (sym n) ∙ is in
        let end : get_or rest (length rest - 1) 0 ≡ 41 = ap (λ (k : ℕ). get_or (b ∷ rest) k 0) (sym m) ∙ last in
        let tail : rest ≡ name ++ 41 ∷ [] = last_apart rest (omega arith)
        ∙ ap (λ (z : List ℕ). z ++ get_or rest (length rest - 1) 0 ∷ []) front
        ∙ ap (λ (z : ℕ). name ++ z ∷ []) end in
        ap (λ (z : ℕ). z ∷ rest) first ∙ ap (λ (z : List ℕ). 40 ∷ z) tail

between_name : (name : List ℕ) → step_in (40 ∷ (name ++ 41 ∷ [])) ≡ Some name
between_name name =
    let l : List ℕ = 40 ∷ (name ++ 41 ∷ []) in
    let n : length l ≡ length name + 2 = omega (arith, length-append name (41 ∷ [])) in
    let t1 : nat_le 2 (length l) ≡ true = grind (arith, nat_tests) in
    let m : length l - 1 ≡ length (40 ∷ name) = omega arith in
    let last : get_or l (length l - 1) 0 ≡ 41 = ap (λ (k : ℕ). get_or l k 0) m ∙ get_or-append_seam (40 ∷ name) 41 [] 0 in
    let t2 : eqb (get_or l (length l - 1) 0) 41 ≡ true = eq-eqb (get_or l (length l - 1) 0) 41 last in
    let k : length l - 2 ≡ length name = omega arith in
    let name_is : take (length l - 2) (drop 1 l) ≡ name = ap (λ (k : ℕ). take k (name ++ 41 ∷ [])) k ∙ take-append_seam name (41 ∷ []) in
    rw (t1, t2) (ap (λ (z : List ℕ). Some z) name_is)

pub step_is : RowIs step_in step Always
step_is = record {
  shaped = λ x. refl;
  reads = λ l x e. (tt, name_between l x e);
  again = λ l x f h. ap step_in h ∙ between_name x;
  sample = (codes "()", [], between_name []);
}

-- The cost.

cost_read : (l : List ℕ) (x : ℕ × Bool) → cost_in l ≡ Some x → IsPlanRowSpelled (cost x.0 x.1) l
cost_read l x e = by_number (number_then (codes "; cost = ") l) refl e
  where
    by_word : (c : ℕ) (word : List ℕ) → number_then (codes "; cost = ") l ≡ Some (c, word) → (t u : Bool)
        → bytes_eq word (codes " (unit cost)") ≡ t → bytes_eq word (codes " (general cost)") ≡ u
        → cond t (Some (c, true)) (cond u (Some (c, false)) None) ≡ Some x → IsPlanRowSpelled (cost x.0 x.1) l
    by_word c word n true u t1 t2 e =
        let same : (c, true) ≡ x = cc in
        let f = number_follows (codes "; cost = ") l c word n in
        subst (λ (z : ℕ × Bool). IsPlanRowSpelled (cost z.0 z.1) l) same (
          f.digits,
          f.number,
          f.whole ∙ ap (λ (z : List ℕ). codes "; cost = " ++ f.digits ++ z)
              ((bytes_eq-Decides word (codes " (unit cost)")).0 t1),
        )
    by_word c word n false true t1 t2 e =
        let same : (c, false) ≡ x = cc in
        let f = number_follows (codes "; cost = ") l c word n in
        subst (λ (z : ℕ × Bool). IsPlanRowSpelled (cost z.0 z.1) l) same (
          f.digits,
          f.number,
          f.whole ∙ ap (λ (z : List ℕ). codes "; cost = " ++ f.digits ++ z)
              ((bytes_eq-Decides word (codes " (general cost)")).0 t2),
        )
    by_word c word n false false t1 t2 e = cc

    by_number : (o : Option (ℕ × List ℕ)) → number_then (codes "; cost = ") l ≡ o → option_and_then with_word o ≡ Some x → IsPlanRowSpelled (cost x.0 x.1) l
    by_number None t e = cc
    by_number (Some (c, word)) t e = by_word c word t (bytes_eq word (codes " (unit cost)")) (bytes_eq word (codes " (general cost)")) refl refl e

cost_again : (l : List ℕ) (c : ℕ) (unit : Bool) → IsPlanRowSpelled (cost c unit) l → cost_in l ≡ Some (c, unit)
cost_again l c unit (digits, is, whole) =
    ap cost_in whole ∙ ap (λ (o : Option (ℕ × List ℕ)). option_and_then with_word o)
    (follows_number (codes "; cost = ") digits c (cost_word unit) is (no_digit_first unit)) ∙ by_unit unit
  where
    no_digit_first : (unit : Bool) → NoDigit (cost_word unit)
    no_digit_first true = refl
    no_digit_first false = refl

    by_unit : (unit : Bool) → with_word (c, cost_word unit) ≡ Some (c, unit)
    by_unit true = refl
    by_unit false = refl

pub cost_is : RowIs cost_in (λ (x : ℕ × Bool). cost x.0 x.1) Always
cost_is = record {
  shaped = λ x. refl;
  reads = λ l x e. (tt, cost_read l x e);
  again = λ l x f h. cost_again l x.0 x.1 h;
  sample = (
      let spelled : IsPlanRowSpelled (cost 0 true) (codes "; cost = " ++ decimal 0 ++ cost_word true) = (decimal 0, decimal_number 0 (omega arith), refl) in
      (codes "; cost = " ++ decimal 0 ++ cost_word true, (0, true), cost_again (codes "; cost = " ++ decimal 0 ++ cost_word true) 0 true spelled));
}

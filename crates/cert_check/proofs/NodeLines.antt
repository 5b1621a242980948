-- The lines of nodes are read exactly.
use Rattle.std.proofs.Common.{◌≡◌, ℕ, ◌+◌, ◌<◌, Bool, true, cond, nat_lt, ◌&&◌, List, ◌++◌, length, Option, Some, None, refl, sym, ap, subst, ◌∙◌, arith, codes, append_assoc}
use Rattle.std.proofs.lemmas.Option.{cond_some}
use Rattle.std.proofs.lemmas.Bool.{and_parts, and_from}
use Rattle.std.proofs.lemmas.Bool.Decides.{nat_tests}
use Rattle.std.specs.Option.{option_map, option_and_then}
use Rattle.line_grammar.specs.Numbers.{IsNumber}
use Rattle.line_grammar.specs.Fields.{first_number, number_then, number_after}
use Rattle.line_grammar.proofs.Fronts.{first_is, first_again, number_follows, follows_number}
use Rattle.line_grammar.proofs.Alone.{alone_is, alone_again}
use Rattle.certificates.specs.declared.node.CertNode.{CertNode}
use Rattle.certificates.specs.Texts.{bit_of, IsNodeLine, IsNodeAfter}
use Rattle.cert_check.specs.Reading.{with_hi, with_low_child, three_in, may_follow, if_may_follow, node_in}

-- Three numbers.

-- the line is the three numbers, with a space between two of them
record Three (line : List ℕ) (bit lo hi : ℕ) : Type 0 where
  a : List ℕ
  b : List ℕ
  c : List ℕ
  is_a : IsNumber a bit
  is_b : IsNumber b lo
  is_c : IsNumber c hi
  whole : line ≡ a ++ codes " " ++ b ++ codes " " ++ c

regroup : (a b c : List ℕ) → a ++ (codes " " ++ b ++ (codes " " ++ c)) ≡ a ++ codes " " ++ b ++ codes " " ++ c
regroup a b c = simp append_assoc

three_is : (line : List ℕ) (bit lo hi : ℕ) → three_in line ≡ Some (bit, lo, hi) → Three line bit lo hi
unfolding three_in
three_is line bit lo hi e = by_bit (first_number line) refl e
  where
    by_hi : (p : ℕ) (rest : List ℕ) → first_number line ≡ Some (p, rest) → (q : ℕ) (rest2 : List ℕ)
        → number_then (codes " ") rest ≡ Some (q, rest2) → (o : Option ℕ) → number_after (codes " ") rest2 ≡ o
        → option_map {U = ℕ × ℕ × ℕ} (λ hi. (p, q, hi)) o ≡ Some (bit, lo, hi) → Three line bit lo hi
    by_hi p rest t q rest2 u None v e = cc
    by_hi p rest t q rest2 u (Some r) v e =
        let same : (let x : ℕ × ℕ × ℕ = (p, q, r) in x) ≡ (bit, lo, hi) = cc in
        let sp : p ≡ bit = ap (λ (x : ℕ × ℕ × ℕ). x.0) same in
        let sq : q ≡ lo = ap (λ (x : ℕ × ℕ × ℕ). x.1) same in
        let sr : r ≡ hi = ap (λ (x : ℕ × ℕ × ℕ). x.2) same in
        let f = first_is line p rest t in
        let g = number_follows (codes " ") rest q rest2 u in
        let h = alone_is (codes " ") r rest2 v in
        record {
          a = f.digits;
          b = g.digits;
          c = h.0;
          is_a = subst (λ (z : ℕ). IsNumber f.digits z) sp f.number;
          is_b = subst (λ (z : ℕ). IsNumber g.digits z) sq g.number;
          is_c = subst (λ (z : ℕ). IsNumber h.0 z) sr h.1;
          whole = f.whole ∙ ap (λ (z : List ℕ). f.digits ++ z) (g.whole ∙ ap (λ (z : List ℕ). codes " " ++ g.digits ++ z) h.2) ∙ regroup f.digits g.digits h.0;
        }

    by_lo : (p : ℕ) (rest : List ℕ) → first_number line ≡ Some (p, rest) → (o : Option (ℕ × List ℕ))
        → number_then (codes " ") rest ≡ o → option_and_then (λ x. with_hi p x.0 x.1) o ≡ Some (bit, lo, hi)
        → Three line bit lo hi
    by_lo p rest t None u e = cc
    by_lo p rest t (Some (q, rest2)) u e = by_hi p rest t q rest2 u (number_after (codes " ") rest2) refl e

    by_bit : (o : Option (ℕ × List ℕ)) → first_number line ≡ o → option_and_then (λ x. with_low_child x.0 x.1) o ≡ Some (bit, lo, hi) → Three line bit lo hi
    by_bit None t e = cc
    by_bit (Some (p, rest)) t e = by_lo p rest t (number_then (codes " ") rest) refl e

three_again : (line : List ℕ) (bit lo hi : ℕ) → Three line bit lo hi → three_in line ≡ Some (bit, lo, hi)
unfolding three_in
three_again line bit lo hi t =
    let last = codes " " ++ t.c in
    let rest = codes " " ++ t.b ++ last in
    let e1 : first_number line ≡ Some (bit, rest) = ap first_number (t.whole ∙ sym (regroup t.a t.b t.c)) ∙ first_again t.a rest bit t.is_a refl in
    let e2 : number_then (codes " ") rest ≡ Some (lo, last) = follows_number (codes " ") t.b lo last t.is_b refl in
    let e3 : number_after (codes " ") last ≡ Some hi = alone_again (codes " ") hi last (t.c, t.is_c, refl) in
    ap (λ (o : Option (ℕ × List ℕ)). option_and_then (λ x. with_low_child x.0 x.1) o) e1
    ∙ ap (λ (o : Option (ℕ × List ℕ)). option_and_then (λ x. with_hi bit x.0 x.1) o) e2
    ∙ ap (λ (o : Option ℕ). option_map {U = ℕ × ℕ × ℕ} (λ hi. (bit, lo, hi)) o) e3

-- A node.

-- the test that a node may follow says what it should
follows_is : (width : ℕ) (before : List CertNode) (x : CertNode) → may_follow width before x.bit x.lo x.hi ≡ true → IsNodeAfter width before x
follows_is width before x e =
    let p = and_parts (nat_lt x.bit width && nat_lt x.lo (length before + 2) && nat_lt x.hi (length before + 2)
    && nat_lt x.bit (bit_of width before x.lo)) (nat_lt x.bit (bit_of width before x.hi)) e in
    let q = and_parts (nat_lt x.bit width && nat_lt x.lo (length before + 2) && nat_lt x.hi (length before + 2))
    (nat_lt x.bit (bit_of width before x.lo)) p.0 in
    let r = and_parts (nat_lt x.bit width && nat_lt x.lo (length before + 2)) (nat_lt x.hi (length before + 2)) q.0 in
    let t = and_parts (nat_lt x.bit width) (nat_lt x.lo (length before + 2)) r.0 in
    record { bit = below t.0; lo_before = below t.1; hi_before = below r.1; lo_later = below q.1; hi_later = below p.1 }
  where
    below : {m n : ℕ} → nat_lt m n ≡ true → m < n
    below e = grind (arith, nat_tests)

is_follows : (width : ℕ) (before : List CertNode) (x : CertNode) → IsNodeAfter width before x → may_follow width before x.bit x.lo x.hi ≡ true
is_follows width before x f =
    and_from _ _ (and_from _ _ (and_from _ _ (and_from _ _ (below f.bit) (below f.lo_before)) (below f.hi_before)) (below f.lo_later)) (below f.hi_later)
  where
    below : {m n : ℕ} → m < n → nat_lt m n ≡ true
    below lt = grind (arith, nat_tests)

pub node_read : (width : ℕ) (before : List CertNode) (line : List ℕ) (x : CertNode)
    → node_in width before line ≡ Some x → IsNodeAfter width before x × IsNodeLine x line
unfolding node_in
node_read width before line x e = by_three (three_in line) refl e
  where
    by_three : (o : Option (ℕ × ℕ × ℕ)) → three_in line ≡ o → option_and_then (if_may_follow width before) o ≡ Some x
        → IsNodeAfter width before x × IsNodeLine x line
    by_three None t e = cc
    by_three (Some (bit, lo, hi)) t e =
        let made : CertNode = record { bit = bit; lo = lo; hi = hi } in
        let k = cond_some (may_follow width before bit lo hi) made x e in
        let three = three_is line bit lo hi t in
        subst (λ (z : CertNode). IsNodeAfter width before z × IsNodeLine z line) k.1
        (follows_is width before made k.0, (three.a, three.b, three.c, three.is_a, three.is_b, three.is_c, three.whole))

pub node_again : (width : ℕ) (before : List CertNode) (line : List ℕ) (x : CertNode) → IsNodeAfter width before x
    → IsNodeLine x line → node_in width before line ≡ Some x
unfolding node_in
node_again width before line x f (a, b, c, is_a, is_b, is_c, whole) =
    let t = three_again line x.bit x.lo x.hi (record { a = a; b = b; c = c; is_a = is_a; is_b = is_b; is_c = is_c; whole = whole }) in
    let passes = is_follows width before x f in
    ap (λ (o : Option (ℕ × ℕ × ℕ)). option_and_then (if_may_follow width before) o) t ∙ ap (λ (b : Bool). cond b (Some x) None) passes

-- The rows of a certificate are read exact_line.
use Rattle.std.proofs.Common.{◌≡◌, ℕ, ◌+◌, ◌^◌, ◌<◌, ◌≤◌, Bool, true, false, cond, eqb, nat_lt, ◌||◌, List, ◌++◌, Option, Some, None, refl, ap, subst, ◌∙◌, arith, codes, decimal}
use Rattle.std.proofs.lemmas.Option.{cond_some}
use Rattle.std.proofs.lemmas.Bool.{eqb-true, eq-eqb}
use Rattle.std.proofs.lemmas.Bool.Decides.{nat_tests}
use Rattle.std.proofs.lemmas.Slice.Eq.{bytes_eq-Decides}
use Rattle.std.specs.Option.{option_and_then}
use Rattle.std.specs.Str.{bytes_eq}
use Rattle.line_grammar.proofs.Exact as grammar
use Rattle.line_grammar.proofs.Joining.{Always}
use Rattle.line_grammar.specs.Numbers.{IsNumbered}
use Rattle.line_grammar.specs.Fields.{number_after, is_numbered}
use Rattle.line_grammar.proofs.Alone.{alone_is, alone_again, numbered_is, numbered_again}
use Rattle.line_grammar.proofs.Decimals.{decimal_number}
use Rattle.certificates.specs.declared.node.CertNode.{CertNode}
use Rattle.certificates.specs.Texts.{CertRow, version, bits, count, node, root, «end», IsCertRowSpelled, IsNodeAfter}
use Rattle.cert_check.specs.Reading.{exact_line, bits_in, if_may_count, count_in, node_in, if_known, root_in}
use Rattle.cert_check.proofs.NodeLines.{node_read, node_again}

abbrev pub shape_of : CertRow → Unit {0}
shape_of _ = tt

abbrev pub RowIs : {X : Type 0} → (List ℕ → Option X) → (X → CertRow) → (X → Type 0) → Type 0
RowIs test row F = grammar.RowIs shape_of IsCertRowSpelled tt test row F

-- a row of known bytes
word_is : (bytes : List ℕ) (row : CertRow) → ((l : List ℕ) → l ≡ bytes → IsCertRowSpelled row l)
    → ((l : List ℕ) → IsCertRowSpelled row l → l ≡ bytes) → RowIs (exact_line bytes) (λ _. row) Always
word_is bytes row to back = record {
  shaped = λ x. refl;
  reads = λ l x e. (tt, to l ((bytes_eq-Decides l bytes).0 (cond_some (bytes_eq l bytes) tt x e).0));
  again = λ l x f h. (let t : bytes_eq l bytes ≡ true = (bytes_eq-Decides l bytes).1 (back l h) in rw t refl);
  sample = (bytes, tt, (let t : bytes_eq bytes bytes ≡ true = (bytes_eq-Decides bytes bytes).1 refl in rw t refl));
}

pub version_is : RowIs (exact_line (codes "symk-cert 1")) (λ _. version) Always
version_is = word_is (codes "symk-cert 1") version (λ l e. e) (λ l e. e)

pub end_is : RowIs (exact_line (codes "end")) (λ _. «end») Always
end_is = word_is (codes "end") «end» (λ l e. e) (λ l e. e)

-- a row of bytes and a number that passes a test
number_is : (word : List ℕ) (pass : ℕ → Option ℕ) (row : ℕ → CertRow) (N : ℕ → Type 0)
    → ((n : ℕ) (l : List ℕ) → IsNumbered word n l → IsCertRowSpelled (row n) l)
    → ((n : ℕ) (l : List ℕ) → IsCertRowSpelled (row n) l → IsNumbered word n l)
    → ((n m : ℕ) → pass n ≡ Some m → N n × (n ≡ m)) → ((n : ℕ) → N n → pass n ≡ Some n) → N 0
    → RowIs (λ line. option_and_then pass (number_after word line)) row N
number_is word pass row N to back passes again zero_passes = record {
  shaped = λ x. refl;
  reads = λ l x e. found l x (number_after word l) refl e;
  again = λ l x f h. ap (option_and_then pass) (alone_again word x l (back x l h)) ∙ again x f;
  sample = (
    word ++ decimal 0,
    0,
    ap (option_and_then pass) (alone_again word 0 (word ++ decimal 0)
        (decimal 0, decimal_number 0 (omega arith), refl)) ∙ again 0 zero_passes,
  );
}
  where
    found : (l : List ℕ) (x : ℕ) (o : Option ℕ) → number_after word l ≡ o → option_and_then pass o ≡ Some x → N x × IsCertRowSpelled (row x) l
    found l x None t e = cc
    found l x (Some n) t e = (let k = passes n x e in (subst N k.1 k.0, subst (λ (z : ℕ). IsCertRowSpelled (row z) l) k.1 (to n l (alone_is word n l t))))

-- how many nodes there may be
abbrev pub MayCount : ℕ → ℕ → Type 0
MayCount width n = width ≡ 0 → n ≡ 0

count_passes : (width n : ℕ) → MayCount width n → (nat_lt 0 width || eqb n 0) ≡ true
count_passes width n may = by_width (nat_lt 0 width) refl
  where
    by_width : (t : Bool) → nat_lt 0 width ≡ t → (t || eqb n 0) ≡ true
    by_width true e = refl
    by_width false e = eq-eqb n 0 (may (grind (arith, nat_tests)))

passes_count : (width n : ℕ) → (nat_lt 0 width || eqb n 0) ≡ true → MayCount width n
passes_count width n e none = by_width (nat_lt 0 width) refl e
  where
    by_width : (t : Bool) → nat_lt 0 width ≡ t → (t || eqb n 0) ≡ true → n ≡ 0
    by_width true e h = absurd (let lt : 0 < width = grind (arith, nat_tests) in omega arith)
    by_width false e h = eqb-true n 0 h

pub count_is : (width : ℕ) → RowIs (count_in width) count (MayCount width)
count_is width = number_is (codes "nodes ") (if_may_count width) count (MayCount width) (λ n l h. h) (λ n l h. h)
    (λ n m e. (let k = cond_some (nat_lt 0 width || eqb n 0) n m e in (passes_count width n k.0, k.1)))
    (λ n may. ap (λ (b : Bool). cond b (Some n) None) (count_passes width n may)) (λ e. refl)

pub root_is : (n : ℕ) → RowIs (root_in n) root (λ r. r < n + 2)
root_is n = number_is (codes "root ") (if_known n) root (λ r. r < n + 2) (λ r l h. h) (λ r l h. h)
    (λ r m e. (let k = cond_some (nat_lt r (n + 2)) r m e in let t : nat_lt r (n + 2) ≡ true = k.0 in (grind (arith, nat_tests), k.1)))
    (λ r lt. ap (λ (b : Bool). cond b (Some r) None) (let t : nat_lt r (n + 2) ≡ true = grind (arith, nat_tests) in t)) (omega arith)

pub bits_is : (width : ℕ) → width < 2 ^ 64 → RowIs (bits_in width) (λ _. bits width) Always
bits_is width small = record {
  shaped = λ x. refl;
  reads = λ l x e. (tt, numbered_is (codes "bits ") width l (cond_some (is_numbered (codes "bits ") width l) tt x e).0);
  again = λ l x f h. (let t = numbered_again (codes "bits ") width l h in rw t refl);
  sample = (
    codes "bits " ++ decimal width,
    tt,
    (let t = numbered_again (codes "bits ") width
        (codes "bits " ++ decimal width) (decimal width, decimal_number width small, refl) in rw t refl),
  );
}

-- a node that may always follow where a state has a bit
abbrev first_node : CertNode
first_node = record { bit = 0; lo = 0; hi = 1 }

abbrev first_line : List ℕ
first_line = decimal 0 ++ codes " " ++ decimal 0 ++ codes " " ++ decimal 1

pub node_is : (width : ℕ) (before : List CertNode) → 1 ≤ width → RowIs (node_in width before) node (IsNodeAfter width before)
node_is width before some = record {
  shaped = λ x. refl;
  reads = node_read width before;
  again = λ l x f h. node_again width before l x f h;
  sample = (
    first_line,
    first_node,
    node_again width before first_line first_node
        (record { bit = omega (arith, some); lo_before = omega arith; hi_before = omega arith; lo_later = omega (arith, some); hi_later = omega (arith, some) })
        (decimal 0, decimal 0, decimal 1, decimal_number 0 (omega arith), decimal_number 0 (omega arith), decimal_number 1 (omega arith), refl),
  );
}

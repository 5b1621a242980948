-- Lists that grow by one.
use Rattle.std.proofs.Common.{◌≡◌, ℕ, ◌+◌, ◌<◌, ◌≤◌, ◌⊎◌, inl, inr, List, [], ◌∷◌, ◌++◌, length, map, Option, None, sym, ◌∙◌, ap, subst, arith}
use Rattle.std.specs.List.{range_with_len}
use Rattle.std.proofs.lemmas.List.{map-append, length_push, get_or_append_left, get_or_push}
use Rattle.std.proofs.Math.Nat.{le_antisymm}
use Rattle.bdd_table.specs.declared.node.Node.{Node}
use Rattle.bdd_table.specs.Diagram.{at}
use Rattle.certificates.specs.declared.node.CertNode.{CertNode}
use Rattle.certificates.proofs.Listed.{range_more}
use Rattle.certificates.specs.Levels.{IsIndex, AreIndexes}
use Rattle.certificates.specs.Listed.{listed_at}

-- one more
pub map_next : {A : Type 0} (f : ℕ → A) (n : ℕ) (now new : List A) (x : A) → now ≡ map f (range_with_len 0 n)
    → x ≡ f n → new ≡ now ++ x ∷ [] → new ≡ map f (range_with_len 0 (n + 1))
map_next {A} f n now new x h e is =
    is ∙ ap (λ (xs : List A). xs ++ x ∷ []) h ∙ ap (λ (y : A). map f (range_with_len 0 n) ++ y ∷ []) e
    ∙ sym (ap (map f) (range_more n) ∙ map-append f (range_with_len 0 n) (n ∷ []))

pub node_as : (table : List Node) (i : ℕ) (n : Node) (lo hi : ℕ) → n ≡ at table (i + 2) → lo ≡ n.lo → hi ≡ n.hi
    → (let x : CertNode = record { bit = n.level; lo = lo; hi = hi } in x) ≡ listed_at table i
node_as table i n lo hi e l h =
    let a : n.level ≡ (at table (i + 2)).level = ap (λ (m : Node). m.level) e in
    let b : lo ≡ (at table (i + 2)).lo = l ∙ ap (λ (m : Node). m.lo) e in
    let c : hi ≡ (at table (i + 2)).hi = h ∙ ap (λ (m : Node). m.hi) e in
    λ k. record { bit = a k; lo = b k; hi = c k }

below_or_at : (k n : ℕ) → k < n + 1 → (k < n) ⊎ (k ≡ n)
below_or_at k n h = grind arith

pub index_none : (places : List ℕ) (indexes : List (Option ℕ)) → indexes ≡ [] → AreIndexes places indexes 0
index_none places indexes e = record { many = ap (λ (xs : List (Option ℕ)). length xs) e; each = λ p lt. absurd (omega (arith, lt)) }

pub index_more : (places : List ℕ) (n : ℕ) (now new : List (Option ℕ)) (x : Option ℕ) → AreIndexes places now n
    → IsIndex places n x → new ≡ now ++ x ∷ [] → AreIndexes places new (n + 1)
index_more places n now new x are is e =
    let many = are.many in
    subst (λ (xs : List (Option ℕ)). AreIndexes places xs (n + 1)) (sym e) (record {
      many = omega (arith, length_push now x, many);
      each = λ p lt. elim (below_or_at p n lt) [
        | inl less ↦ subst (IsIndex places p) (sym (get_or_append_left now (x ∷ []) None p (omega (arith, less, many)))) (are.each p less)
        | inr same ↦ subst (IsIndex places p) (sym (get_or_push now x None p (many ∙ sym same))) (subst (λ (q : ℕ). IsIndex places q x) (sym same) is)
      ];
    })

pub index_all : (places : List ℕ) (n count : ℕ) (indexes : List (Option ℕ)) → n ≤ count → count ≤ n
    → AreIndexes places indexes n → AreIndexes places indexes count
index_all places n count indexes low high are = subst (AreIndexes places indexes) (le_antisymm low high) are

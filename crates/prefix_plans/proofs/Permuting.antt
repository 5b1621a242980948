-- Entries in another order, and parts of a list of them.
use Rattle.std.proofs.Common.{◌≡◌, ℕ, ◌+◌, List, [], ◌∷◌, ◌++◌, map, refl, sym, ap, subst, arith}
use Rattle.std.specs.List.{AllByRecursion, sum_by}
use Rattle.std.specs.List.Sorted.{IsPermutation}
use Rattle.std.proofs.lemmas.List.Elements.{recursion_from_All, All-from_recursion}
use Rattle.std.proofs.lemmas.List.Sorted.{IsPermutation-map, All-permutation, sum_by-IsPermutation}
use Rattle.std.proofs.lemmas.List.Sums.{sum_by-cons}
use Rattle.lazy_plans.specs.Queue.{Replaced}
use Rattle.prefix_tree.specs.Tree.{path_at}
use Rattle.prefix_tree.specs.Entries.{prefixes}
use Rattle.prefix_tree.specs.declared.tree.Node.{Node}
use Rattle.prefix_tree.specs.declared.entry.Entry.{Entry}

-- what holds of each
pub join_each : {X : Type 0} (P : X → Type 0) (xs ys : List X) → AllByRecursion P xs → AllByRecursion P ys → AllByRecursion P (xs ++ ys)
join_each P [] ys a b = b
join_each P (x ∷ xs) ys a b = (a.0, join_each P xs ys a.1 b)

pub left_each : {X : Type 0} (P : X → Type 0) (xs ys : List X) → AllByRecursion P (xs ++ ys) → AllByRecursion P xs
left_each P [] ys a = tt
left_each P (x ∷ xs) ys a = (a.0, left_each P xs ys a.1)

pub right_each : {X : Type 0} (P : X → Type 0) (xs ys : List X) → AllByRecursion P (xs ++ ys) → AllByRecursion P ys
right_each P [] ys a = a
right_each P (x ∷ xs) ys a = right_each P xs ys a.1

pub permuted_each : {X : Type 0} (P : X → Type 0) (xs ys : List X) → IsPermutation xs ys → AllByRecursion P xs → AllByRecursion P ys
permuted_each P xs ys perm a = recursion_from_All P ys (All-permutation P xs ys perm (All-from_recursion P xs a))

-- their prefixes
mapped : (nodes : List Node) (es : List Entry) → prefixes nodes es ≡ map (λ (e : Entry). path_at nodes e.node) es
mapped nodes [] = refl
mapped nodes (e ∷ es) = ap (λ (ps : List (List ℕ)). path_at nodes e.node ∷ ps) (mapped nodes es)

pub permuted_prefixes : (nodes : List Node) (es new : List Entry) → IsPermutation es new → IsPermutation (prefixes nodes es) (prefixes nodes new)
permuted_prefixes nodes es new perm = subst (λ (ps : List (List ℕ)). IsPermutation ps (prefixes nodes new))
    (sym (mapped nodes es)) (subst (IsPermutation (map (λ (e : Entry). path_at nodes e.node) es))
    (sym (mapped nodes new)) (IsPermutation-map (λ (e : Entry). path_at nodes e.node) es new perm))

-- as if one of them were taken out and put back
pub replaced_same : (old new : List (List ℕ)) (p : List ℕ) → IsPermutation old new → Replaced old (p ∷ []) p new
replaced_same old new p perm f = numbers (sum_by f old) (sum_by f new) (f p) (sum_by f (p ∷ [])) (sum_by-IsPermutation f old new perm) (sum_by-cons f p [])
  where
    numbers : (a b c d : ℕ) → b ≡ a → d ≡ c + 0 → a + d ≡ c + b
    numbers a b c d s t = omega (arith, s, t)

-- the first is taken out
pub replaced_front : (p : List ℕ) (rest : List (List ℕ)) → Replaced (p ∷ rest) [] p rest
replaced_front p rest f = numbers (sum_by f (p ∷ rest)) (f p) (sum_by f rest) (sum_by-cons f p rest)
  where
    numbers : (a b c : ℕ) → a ≡ b + c → a + 0 ≡ b + c
    numbers a b c s = omega (arith, s)

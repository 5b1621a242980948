-- The first entry of a queue gives way to others; the prefixes of entries.
use Rattle.std.proofs.Common.{◌≡◌, ℕ, suc, ◌<◌, inl, List, [], ◌∷◌, ◌++◌, length, slice_index_or, refl, sym, ap, subst, arith}
use Rattle.std.specs.List.{AllByRecursion, sum_by}
use Rattle.std.specs.List.Sorted.{IsPermutation}
use Rattle.std.proofs.lemmas.List.Elements.{recursion_from_All, All-from_recursion}
use Rattle.std.proofs.lemmas.List.Sorted.{All-permutation, sum_by-IsPermutation}
use Rattle.std.proofs.lemmas.List.Sums.{sum_by-cons, sum_by-append}
use Rattle.task_system.specs.System.{Listed}
use Rattle.lazy_plans.specs.Queue.{Replaced}
use Rattle.prefix_tree.specs.Tree.{path_at}
use Rattle.prefix_tree.specs.Entries.{prefixes}
use Rattle.prefix_tree.specs.declared.tree.Node.{Node}
use Rattle.prefix_tree.specs.declared.entry.Entry.{Entry}

prefix_sum : (nodes : List Node) (f : List ℕ → ℕ) (es : List Entry) → sum_by f (prefixes nodes es) ≡ sum_by (λ (e : Entry). f (path_at nodes e.node)) es
prefix_sum nodes f [] = refl
prefix_sum nodes f (e ∷ es) = omega (
  arith,
  prefix_sum nodes f es,
  sum_by-cons f (path_at nodes e.node)
      (prefixes nodes es),
  sum_by-cons (λ (k : Entry). f (path_at nodes k.node)) e es,
)

pub prefixes_length : (nodes : List Node) (es : List Entry) → length (prefixes nodes es) ≡ length es
prefixes_length nodes [] = refl
prefixes_length nodes (e ∷ es) = ap suc (prefixes_length nodes es)

pub prefixes_last : (nodes : List Node) (ks : List Entry) (k : Entry) → prefixes nodes (ks ++ k ∷ []) ≡ prefixes nodes ks ++ path_at nodes k.node ∷ []
prefixes_last nodes [] k = refl
prefixes_last nodes (j ∷ ks) k = ap (λ (z : List (List ℕ)). path_at nodes j.node ∷ z) (prefixes_last nodes ks k)

-- where the places of the entries have the same prefixes
pub prefixes_like : (P : Entry → Type 0) (a c : List Node) (es : List Entry) → ((e : Entry) → P e → e.node < length a)
    → ((i : ℕ) → i < length a → path_at c i ≡ path_at a i) → AllByRecursion P es → prefixes c es ≡ prefixes a es
prefixes_like P a c [] inside same z = refl
prefixes_like P a c (e ∷ es) inside same z =
    let one = same e.node (inside e z.0) in
    let rest = prefixes_like P a c es inside same z.1 in
    λ i. one i ∷ rest i

-- the first entry
pub first_is : (P : Entry → Type 0) (es : List Entry) (e : Entry) → 0 < length es → e ≡ slice_index_or es 0 e → AllByRecursion P es → P e
first_is P [] e some is a = absurd (omega arith)
first_is P (x ∷ es) e some is a = subst P (sym is) a.0

pub first_in : (nodes : List Node) (es : List Entry) (e : Entry) → 0 < length es → e ≡ slice_index_or es 0 e → Listed (prefixes nodes es) (path_at nodes e.node)
first_in nodes [] e some is = absurd (omega arith)
first_in nodes (x ∷ es) e some is = inl (ap (λ (k : Entry). path_at nodes k.node) (sym is))

join_each : {X : Type 0} (P : X → Type 0) (xs ys : List X) → AllByRecursion P xs → AllByRecursion P ys → AllByRecursion P (xs ++ ys)
join_each P [] ys a b = b
join_each P (x ∷ xs) ys a b = (a.0, join_each P xs ys a.1 b)

-- e was taken out and its children were put in
module _ (es kids new : List Entry) (e : Entry) (perm : IsPermutation (es ++ kids) (e ∷ new)) where
  pub entries_replaced : Replaced es kids e new
  entries_replaced f = omega (arith, sum_by-IsPermutation f (es ++ kids) (e ∷ new) perm, sum_by-append f es kids, sum_by-cons f e new)

  pub replaced_by : (nodes : List Node) → Replaced (prefixes nodes es) (prefixes nodes kids) (path_at nodes e.node) (prefixes nodes new)
  replaced_by nodes f = omega (
    arith,
    entries_replaced (λ (k : Entry). f (path_at nodes k.node)),
    prefix_sum nodes f
        es,
    prefix_sum nodes f kids,
    prefix_sum nodes f new,
  )

  pub each_new : (P : Entry → Type 0) → AllByRecursion P es → AllByRecursion P kids → AllByRecursion P new
  each_new P a b = let all : AllByRecursion P (e ∷ new) = recursion_from_All P (e ∷ new) (All-permutation P (es ++ kids) (e ∷ new) perm (All-from_recursion P (es ++ kids) (join_each P es kids a b))) in all.1

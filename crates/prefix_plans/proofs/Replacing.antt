-- The first entry gives way to others.
use Rattle.std.proofs.Common.{◌≡◌, ◌≤◌, ◌+◌, ℕ, inl, inr, List, [], ◌∷◌, ◌++◌, slice_index_or, Option, Some, None, Result, Ok, Err, OnErr, refl, sym, subst, arith}
use Rattle.std.specs.List.{AllByRecursion}
use Rattle.std.specs.List.Sorted.{IsPermutation}
use Rattle.symk_task.specs.declared.parts.Mode.TheVariants.{TopK}
use Rattle.space_api.specs.View.{View}
use Rattle.cost_to_go.specs.declared.search.CostToGo.{CostToGo}
use Rattle.lazy_plans.specs.Queue.{Good, Bounds}
use Rattle.prefix_tree.specs.Order.{IsNoLater}
use Rattle.prefix_tree.specs.StateGraph.{states_of, IsStateGraph}
use Rattle.prefix_tree.specs.declared.state_graph.StateGraph.{StateGraph}
use Rattle.prefix_tree.specs.Tree.{GrowsTree, path_at}
use Rattle.prefix_tree.specs.Entries.{prefixes, entry_alone}
use Rattle.prefix_tree.specs.declared.tree.Node.{Node}
use Rattle.prefix_tree.specs.declared.entry.Entry.{Entry}
use Rattle.prefix_tree.proofs.Entries.{each_new}
use Rattle.prefix_plans.specs.Left.{known_to_go}
use Rattle.prefix_plans.specs.EndChildren.{IsEndEntry, IsUpToDate, outdated}
use Rattle.prefix_plans.specs.EndStanding.{IsBetterEnd, IsEndReady, all_outdated}
use Rattle.prefix_plans.proofs.EndsGrowing.{each_like}

pub on_err : {X E P : Type 0} (r : Result X E) → P → OnErr r P
on_err (Ok x) p = tt
on_err (Err e) p = p

pub each_of_new : {Set : Type 0} (v : View Set) (f : CostToGo Set) (nodes : List Node) (es : List Entry)
    → AllByRecursion (IsUpToDate v f nodes) es → AllByRecursion (IsEndEntry v f nodes) es
each_of_new v f nodes [] a = tt
each_of_new v f nodes (e ∷ es) a = (a.0.0, each_of_new v f nodes es a.1)

pub no_less : (x y : Entry) → IsNoLater x y → x.bound.0 ≤ y.bound.0
no_less x y (inl lt) = omega (arith, lt)
no_less x y (inr h) = omega (arith, h.0)

-- no plan of any entry costs less than the bound of the first
pub bounds_first : {Set : Type 0} (v : View Set) (f : CostToGo Set) (nodes : List Node) (e : Entry) (es : List Entry)
    → AllByRecursion (IsEndEntry v f nodes) es → AllByRecursion (IsNoLater e) es
    → AllByRecursion (λ x. Bounds v.system x e.bound.0) (prefixes nodes es)
bounds_first v f nodes e [] a b = tt
bounds_first v f nodes e (k ∷ es) a b = (
  (λ p plan on. let le = a.0.bounds p plan on in let first = no_less e k b.0 in omega (arith, le, first)),
  bounds_first v f nodes e es a.1 b.1,
)

-- a prefix in the tree is good
pub good_at : {Set : Type 0} (v : View Set) (f : CostToGo Set) (m : StateGraph) (nodes : List Node) (es : List Entry)
    (e : Entry) → IsEndReady v f m nodes es → IsEndEntry v f nodes e → Good v.system TopK (path_at nodes e.node)
good_at v f m nodes es e z entry = (z.tree.each e.node entry.inside).good

-- the tree grew, and the queue is as it was
pub ready_grown : {Set : Type 0} (v : View Set) (f : CostToGo Set) (m n : StateGraph) (a c : List Node)
    (es : List Entry) → IsStateGraph v.system n → GrowsTree v.system TopK (states_of n) a c
    → IsEndReady v f m a es → IsEndReady v f n c es
ready_grown v f m n a c es graph g z = record { alone = z.alone; graph = graph; tree = g.tree; each = each_like v f a c g.longer g.paths es z.each }

-- what the queue has once its first entry gave way to others
pub replaced_perm : (es room kids new : List Entry) (e : Entry) → room ≡ es → e ≡ slice_index_or es 0 e
    → ((k : Entry) → k ≡ slice_index_or room 0 k → IsPermutation (room ++ kids) (k ∷ new))
    → IsPermutation (es ++ kids) (e ∷ new)
replaced_perm es room kids new e same first perm =
    let there : e ≡ slice_index_or room 0 e = subst (λ (l : List Entry). e ≡ slice_index_or l 0 e) (sym same) first in
    subst (λ (l : List Entry). IsPermutation (l ++ kids) (e ∷ new)) same (perm e there)

pub learned_perm : (es room others new : List Entry) (o : Option Entry) (e : Entry) → room ≡ es → others ≡ entry_alone o
    → e ≡ slice_index_or es 0 e → ((k : Entry) → k ≡ slice_index_or room 0 k → IsPermutation (room ++ others)
    (k ∷ new)) → IsPermutation (es ++ entry_alone o) (e ∷ new)
learned_perm es room others new o e same is first perm = subst (λ (l : List Entry). IsPermutation (es ++ l) (e ∷ new))
    is (replaced_perm es room others new e same first perm)

-- what was learned of the first entry
module _ {Set : Type 0} (v : View Set) (f : CostToGo Set) (m : StateGraph) (nodes : List Node) (es new : List Entry) (e : Entry) where
  each_of : (o : Option Entry) → IsBetterEnd v f nodes e o → AllByRecursion (IsEndEntry v f nodes) (entry_alone o)
  each_of None h = tt
  each_of (Some k) h = (h.1.0, tt)

  pub fresh_of : (o : Option Entry) → IsBetterEnd v f nodes e o → all_outdated (known_to_go f) (entry_alone o) ≡ 0
  fresh_of None h = refl
  fresh_of (Some k) h = alone (outdated (known_to_go f) k) h.1.2
    where
      alone : (n : ℕ) → n ≡ 0 → n + 0 ≡ 0
      alone n is = omega (arith, is)

  pub learned_ready : IsEndReady v f m nodes es → (o : Option Entry) → IsBetterEnd v f nodes e o
      → IsPermutation (es ++ entry_alone o) (e ∷ new) → IsEndReady v f m nodes new
  learned_ready z o better perm = record {
    alone = z.alone;
    graph = z.graph;
    tree = z.tree;
    each = each_new es
        (entry_alone o) new e perm (IsEndEntry v f nodes) z.each (each_of o better);
  }

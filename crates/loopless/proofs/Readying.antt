-- The queue between two turns, after what was done with its first entry.
use Rattle.std.proofs.Common.{◌≡◌, ℕ, List, [], ◌∷◌, ◌++◌, slice_index_or, Option, Some, None, refl, sym, ap, subst, arith}
use Rattle.std.specs.List.{AllByRecursion}
use Rattle.std.specs.List.Sorted.{IsPermutation}
use Rattle.task_system.specs.System.{State, System}
use Rattle.space_api.specs.View.{View}
use Rattle.cost_search.specs.Directed.{Backward, IsBackward}
use Rattle.lazy_plans.specs.Queue.{Good, Replaced}
use Rattle.lazy_plans.proofs.Falls.{back_weight}
use Rattle.lazy_plans.proofs.Turns as turns
use Rattle.prefix_tree.specs.StateGraph.{states_of, IsStateGraph}
use Rattle.loopless.specs.declared.front.Front.{Front}
use Rattle.loopless.specs.declared.rests.Rests.{Rests}
use Rattle.loopless.specs.Rests.{AreKeptRests}
use Rattle.prefix_tree.specs.Tree.{IsTree, path_at}
use Rattle.prefix_tree.specs.declared.tree.Node.{Node}
use Rattle.prefix_tree.specs.declared.entry.Entry.{Entry}
use Rattle.prefix_tree.specs.Entries.{queued_entries, entry_alone}
use Rattle.prefix_tree.specs.declared.queue.Queue.{Queue}
use Rattle.symk_task.specs.declared.parts.Mode.TheVariants.{Loopless}
use Rattle.prefix_tree.proofs.Entries.{first_is, replaced_by, each_new}
use Rattle.loopless.specs.Children.{IsEntry}
use Rattle.loopless.specs.Front.{waiting, prefixes_of, IsLooplessFirst}
use Rattle.loopless.specs.Told.{IsInformed}
use Rattle.loopless.specs.Standing.{MovedBackward, IsBetter, IsLooplessReady, GoesOnLoopless}
use Rattle.loopless.proofs.Inside.{alone_moved}
use Rattle.loopless.proofs.Turning.{stale_new, goes}

-- what tells how much is left
pub ready_informed : {Set : Type 0} (v : View Set) (b : Backward Set) (f : Front) → IsLooplessReady v b f → IsInformed v b f.graph f.rests
ready_informed v b f z = record { backward = z.alone.backward; wide = z.alone.wide; graph = z.graph; kept = z.kept }

-- the search back went on, and what is left from states was learned
pub ready_moved : {Set : Type 0} (v w : View Set) (b h : Backward Set) (f : Front) (rests : Rests) →
    AreKeptRests v.system (states_of f.graph) rests → IsBackward w h → MovedBackward v w b h → IsLooplessReady v b f
    → IsLooplessReady w h (record f { rests = rests })
ready_moved v w b h f rests kept back m z = record {
  alone = alone_moved v w b h back m z.alone;
  graph = subst (λ (y : System). IsStateGraph y f.graph) (sym m.trades.system) z.graph;
  kept = subst (λ (y : System). AreKeptRests y (states_of f.graph) rests) (sym m.trades.system) kept;
  tree = subst (λ (y : System). IsTree y Loopless (states_of f.graph) f.tree.items) (sym m.trades.system) z.tree;
  each = subst (λ (y : System). AllByRecursion (IsEntry y f.tree.items) (waiting f)) (sym m.trades.system) z.each;
}

-- the queue has the same entries
pub ready_queue : {Set : Type 0} (v : View Set) (b : Backward Set) (f : Front) (q : Queue) →
    queued_entries q ≡ waiting f → IsLooplessReady v b f → IsLooplessReady v b (record f { queue = q })
ready_queue v b f q same z = record {
  alone = z.alone;
  graph = z.graph;
  kept = z.kept;
  tree = z.tree;
  each = subst (AllByRecursion (IsEntry v.system f.tree.items)) (sym same) z.each;
}

-- a prefix in the tree is good
pub good_at : (y : System) (ss : List State) (nodes : List Node) (e : Entry) → IsTree y Loopless ss nodes → IsEntry y nodes e →
    Good y Loopless (path_at nodes e.node)
good_at y ss nodes e z entry = (z.each e.node entry.inside).good

-- the first entry gave way to what was learned of it
module _ {Set : Type 0} (v : View Set) (b : Backward Set) (f : Front) (q : Queue) (e : Entry) (first : IsLooplessFirst f e) (z : IsLooplessReady v b f) where
  abbrev new : Front
  new = record f { queue = q }

  good : Good v.system Loopless (path_at f.tree.items e.node)
  good = good_at v.system (states_of f.graph) f.tree.items e z.tree (first_is (IsEntry v.system f.tree.items) (waiting f) e first.some first.at z.each)

  each_of : (k : Option Entry) → IsBetter v.system f.tree.items e k → AllByRecursion (IsEntry v.system f.tree.items) (entry_alone k)
  each_of None h = tt
  each_of (Some k) h = (h.1, tt)

  pub learned_ready : (o : Option Entry) → IsBetter v.system f.tree.items e o →
      IsPermutation (waiting f ++ entry_alone o) (e ∷ queued_entries q) → IsLooplessReady v b new
  learned_ready o better perm = record {
    alone = z.alone;
    graph = z.graph;
    kept = z.kept;
    tree = z.tree;
    each = each_new (waiting f) (entry_alone o) (queued_entries q) e perm (IsEntry v.system f.tree.items) z.each (each_of o better);
  }

  pub learned_goes : (o : Option Entry) → IsBetter v.system f.tree.items e o →
      IsPermutation (waiting f ++ entry_alone o) (e ∷ queued_entries q) → GoesOnLoopless v.system f new
  learned_goes None lost perm most right =
      let path = path_at f.tree.items e.node in
      goes v.system f new [] e refl perm first good (turns.none_come v.system Loopless path lost)
      (record { longer = tt; few = omega arith }) tt (turns.no_plan v.system Loopless path good lost) most right
  learned_goes (Some k) h perm most right =
      let nodes = f.tree.items in
      let path = path_at nodes e.node in
      let same : path_at nodes k.node ≡ path_at nodes e.node = ap (path_at nodes) h.0 in
      let r : Replaced (prefixes_of f) (path_at nodes e.node ∷ []) (path_at nodes e.node) (prefixes_of new) =
      subst (λ (p : List ℕ). Replaced (prefixes_of f) (p ∷ []) (path_at nodes e.node) (prefixes_of new)) same
      (replaced_by (waiting f) (k ∷ []) (queued_entries q) e perm nodes) in
      let w = back_weight v.system path (prefixes_of f) (prefixes_of new) r in (
        turns.back_right v.system Loopless path (prefixes_of f) (prefixes_of new) r most right,
        turns.back_stays v.system Loopless path (prefixes_of f) (prefixes_of new) r,
        omega (arith, w, h.2, stale_new v.system f new (k ∷ []) e refl perm),
      )

-- what the queue has once its first entry gave way to others
pub replaced_perm : (f : Front) (room others new : List Entry) (e : Entry) → room ≡ waiting f → IsLooplessFirst f e →
    ((k : Entry) → k ≡ slice_index_or room 0 k → IsPermutation (room ++ others) (k ∷ new)) → IsPermutation (waiting f ++ others) (e ∷ new)
replaced_perm f room others new e same first perm =
    let there : e ≡ slice_index_or room 0 e = subst (λ (l : List Entry). e ≡ slice_index_or l 0 e) (sym same) first.at in
    subst (λ (l : List Entry). IsPermutation (l ++ others) (e ∷ new)) same (perm e there)

pub better_as : (y z : System) (nodes : List Node) (e : Entry) (o : Option Entry) → z ≡ y → IsBetter y nodes e o → IsBetter z nodes e o
better_as y z nodes e o same h = subst (λ (x : System). IsBetter x nodes e o) (sym same) h

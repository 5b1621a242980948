-- The first entry gives way to its children.
use Rattle.std.proofs.Common.{◌≡◌, ℕ, List, ◌∷◌, ◌++◌, Option, Some, None, Result, Ok, Err, OnErr, sym, ◌∙◌, ap, subst, arith}
use Rattle.std.specs.List.{AllByRecursion}
use Rattle.std.specs.List.Sorted.{IsPermutation}
use Rattle.symk_task.specs.declared.parts.Mode.TheVariants.{Loopless}
use Rattle.task_system.specs.System.{System}
use Rattle.space_api.specs.View.{View}
use Rattle.space_api.proofs.Trading.{valid_clash}
use Rattle.cost_search.specs.Directed.{Backward}
use Rattle.lazy_plans.specs.Queue.{Good}
use Rattle.prefix_tree.specs.StateGraph.{states_of}
use Rattle.loopless.specs.declared.front.Front.{Front}
use Rattle.prefix_tree.specs.Tree.{path_at}
use Rattle.prefix_tree.specs.declared.tree.Node.{Node}
use Rattle.prefix_tree.specs.declared.entry.Entry.{Entry}
use Rattle.prefix_tree.specs.Entries.{queued_entries, prefixes}
use Rattle.prefix_tree.specs.declared.queue.Queue.{Queue}
use Rattle.lazy_plans.specs.Weight.{AreLonger}
use Rattle.prefix_tree.proofs.Entries.{prefixes_length, prefixes_like, first_is, each_new}
use Rattle.loopless.specs.Children.{IsEntry, AreChildren}
use Rattle.loopless.specs.Front.{waiting, prefixes_of, IsLooplessFirst}
use Rattle.loopless.specs.Standing.{IsLooplessReady, IsGrown, GivesFirst, OpensLoopless, IsLooplessEntryPlan}
use Rattle.loopless.proofs.Growing.{each_like}
use Rattle.loopless.proofs.Turning.{goes, gives}
use Rattle.loopless.proofs.Readying.{good_at}

longer : (y : System) (c : List Node) (e : List ℕ) (kids : List Entry) → AreChildren y c e y.operators kids → AreLonger y e (prefixes c kids)
longer y c e kids z = record { longer = z.longer; few = omega (arith, z.few, prefixes_length c kids) }

pub on_err : {X E P : Type 0} (r : Result X E) → P → OnErr r P
on_err (Ok x) p = tt
on_err (Err e) p = p

-- prefixes were added
module _ {Set : Type 0} (v : View Set) (b : Backward Set) (f h : Front) (g : IsGrown v.system f h) (z : IsLooplessReady v b f) where
  each_old : AllByRecursion (IsEntry v.system h.tree.items) (waiting f)
  each_old = each_like v.system f.tree.items h.tree.items (waiting f) g.tree.longer g.tree.paths z.each

  pub ready_grown : IsLooplessReady v b h
  ready_grown = record {
    alone = z.alone;
    graph = g.graph;
    kept = g.kept;
    tree = g.tree.tree;
    each = subst (AllByRecursion (IsEntry v.system h.tree.items)) (sym g.queue) each_old;
  }

  -- the old entries stand for the same prefixes in the larger tree
  same : prefixes h.tree.items (waiting f) ≡ prefixes_of f
  same = prefixes_like (IsEntry v.system f.tree.items) f.tree.items h.tree.items (waiting f) (λ k w. w.inside) g.tree.paths z.each

  pub prefixes_grown : prefixes_of h ≡ prefixes_of f
  prefixes_grown = ap (prefixes h.tree.items) g.queue ∙ same

  -- children came to the tree, and the first entry gave way to them in the queue
  module _ (q : Queue) (kids : List Entry) (e : Entry) (first : IsLooplessFirst f e)
      (children : AreChildren v.system h.tree.items (path_at f.tree.items e.node) v.system.operators kids)
      (perm : IsPermutation (waiting f ++ kids) (e ∷ queued_entries q)) where
    abbrev new : Front
    new = record h { queue = q }

    pub open_ready : IsLooplessReady v b new
    open_ready = record {
      alone = z.alone;
      graph = g.graph;
      kept = g.kept;
      tree = g.tree.tree;
      each = each_new (waiting f) kids (queued_entries q) e perm (IsEntry v.system h.tree.items) each_old children.each;
    }

    entry : IsEntry v.system h.tree.items e
    entry = first_is (IsEntry v.system h.tree.items) (waiting f) e first.some first.at each_old

    path : path_at h.tree.items e.node ≡ path_at f.tree.items e.node
    path = g.tree.paths e.node (first_is (IsEntry v.system f.tree.items) (waiting f) e first.some first.at z.each).inside

    good : Good v.system Loopless (path_at h.tree.items e.node)
    good = good_at v.system (states_of h.graph) h.tree.items e g.tree.tree entry

    all_children : AreChildren v.system h.tree.items (path_at h.tree.items e.node) v.system.operators kids
    all_children = subst (λ (p : List ℕ). AreChildren v.system h.tree.items p v.system.operators kids) (sym path) children

    pub open_opens : (o : Option (List ℕ)) → IsLooplessEntryPlan f.tree.items e o → OpensLoopless v.system f new e o
    open_opens None off =
        goes v.system f new kids e same perm first good all_children.counted
        (longer v.system h.tree.items (path_at h.tree.items e.node) kids all_children) children.each (λ p. valid_clash (entry.plan.1 p) off)
    open_opens (Some p) on = (
      on.0,
      subst (GivesFirst v.system f new e) (path ∙ sym on.1)
          (gives v.system f new kids e same perm first good all_children.counted each_old (entry.plan.0 on.0)),
    )

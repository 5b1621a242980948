-- The first entry gives way to its children, or to what is known of it.
use Rattle.std.proofs.Common.{◌≡◌, ℕ, ◌<◌, ◌≤◌, IsTrue, IsFalse, List, [], ◌∷◌, ◌++◌, Option, Some, None, refl, sym, ◌∙◌, ap, subst, arith}
use Rattle.std.specs.List.{AllByRecursion}
use Rattle.std.specs.List.Sorted.{IsPermutation}
use Rattle.std.proofs.lemmas.List.Elements.{recursion_from_All}
use Rattle.symk_task.specs.declared.parts.Mode.TheVariants.{TopK}
use Rattle.task_system.specs.System.{Listed, IsSystemPlan, cost_in_system}
use Rattle.space_api.specs.View.{View}
use Rattle.space_api.proofs.Trading.{valid_clash}
use Rattle.lazy_plans.specs.Law.{top}
use Rattle.cost_to_go.specs.declared.search.CostToGo.{CostToGo}
use Rattle.lazy_plans.specs.Queue.{Good, Replaced, Right}
use Rattle.lazy_plans.proofs.Turns as turns
use Rattle.prefix_tree.specs.Order.{IsNoLater}
use Rattle.prefix_tree.specs.StateGraph.{states_of, IsStateGraph}
use Rattle.prefix_tree.specs.Tree.{GrowsTree, path_at}
use Rattle.prefix_tree.specs.Entries.{queued_entries, prefixes, entry_alone}
use Rattle.prefix_tree.specs.declared.tree.Node.{Node}
use Rattle.prefix_tree.specs.declared.entry.Entry.{Entry}
use Rattle.prefix_tree.specs.declared.queue.Queue.{Queue}
use Rattle.prefix_tree.proofs.Entries.{prefixes_like, first_is, first_in, entries_replaced, replaced_by, each_new}
use Rattle.prefix_plans.specs.Left.{known_to_go}
use Rattle.prefix_plans.specs.EndChildren.{IsEndEntry, IsOutdated}
use Rattle.prefix_plans.specs.EndStanding.{IsBetterEnd, Learned, IsEndEntryPlan}
use Rattle.prefix_plans.proofs.Dating.{ranked_dated, unranked_dated}
use Rattle.prefix_plans.proofs.EndsGrowing.{each_like, entry_like}
use Rattle.prefix_plans.proofs.Replacing.{each_of_new, bounds_first, good_at, fresh_of}
use Rattle.prefix_plans.specs.Children.{ArePrefixChildren}
use Rattle.prefix_plans.specs.Standing.{waiting_prefixes, PrefixFrontStands, IsPrefixFirst, GoesOnByPrefix, GivesPrefixPlan, KeepsPending, OpensPrefix, prefix_work}
use Rattle.prefix_plans.specs.declared.front.Front.{Front}
use Rattle.prefix_plans.proofs.Far.{first_nearest, open_less, learn_less}
use Rattle.prefix_plans.proofs.Descending.{descends, kids_fresh}

-- the children came to the tree, and the entry gave way to them in the queue
module _ {Set : Type 0} (v : View Set) (f : CostToGo Set) (x w : Front) (kids : List Entry) (q : Queue) (e : Entry) (graph : IsStateGraph v.system w.graph)
    (g : GrowsTree v.system TopK (states_of w.graph) x.tree.items w.tree.items) (z : PrefixFrontStands v f x)
    (first : IsPrefixFirst e (queued_entries x.queue)) (ranked : IsTrue e.settled)
    (children : ArePrefixChildren v f w.tree.items (path_at x.tree.items e.node) v.system.operators kids)
    (perm : IsPermutation (queued_entries x.queue ++ kids) (e ∷ queued_entries q)) where
  abbrev a : List Node
  a = x.tree.items

  abbrev c : List Node
  c = w.tree.items

  abbrev es : List Entry
  es = queued_entries x.queue

  abbrev new : List Entry
  new = queued_entries q

  abbrev after : Front
  after = record w { queue = q }

  old_entry : IsEndEntry v f a e
  old_entry = first_is (IsEndEntry v f a) es e first.some first.first z.each

  each_old : AllByRecursion (IsEndEntry v f c) es
  each_old = each_like v f a c g.longer g.paths es z.each

  pub open_ready : PrefixFrontStands v f after
  open_ready = record {
    alone = z.alone;
    graph = graph;
    tree = g.tree;
    each =
        each_new es kids new e perm (IsEndEntry v f c) each_old (each_of_new v f c kids children.each);
  }

  entry : IsEndEntry v f c e
  entry = entry_like v f a c g.longer g.paths e old_entry

  same : prefixes c es ≡ prefixes a es
  same = prefixes_like (IsEndEntry v f a) a c es (λ k i. i.inside) g.paths z.each

  path : path_at c e.node ≡ path_at a e.node
  path = g.paths e.node old_entry.inside

  good : Good v.system TopK (path_at c e.node)
  good = (g.tree.each e.node entry.inside).good

  sorted : AllByRecursion (IsNoLater e) es
  sorted = recursion_from_All (IsNoLater e) es first.order

  theirs : ArePrefixChildren v f c (path_at c e.node) v.system.operators kids
  theirs = subst (λ (p : List ℕ). ArePrefixChildren v f c p v.system.operators kids) (sym path) children

  taken : Replaced (prefixes c es) (prefixes c kids) (path_at c e.node) (prefixes c new)
  taken = replaced_by es kids new e perm c

  inside : Listed (prefixes c es) (path_at c e.node)
  inside = first_in c es e first.some first.first

  less : ¬ IsSystemPlan v.system (path_at c e.node) → prefix_work (known_to_go f) new < prefix_work (known_to_go f) es
  less off = open_less (known_to_go f) es kids new e (entries_replaced es kids new e perm)
      (first_nearest v f c e es entry each_old sorted) (ranked_dated (known_to_go f) e ranked)
      (kids_fresh v f z.alone.search c e entry (entry.ranked ranked) kids theirs)
      (descends v f z.alone.search c e entry (entry.ranked ranked) kids theirs off)

  keeps : ¬ IsSystemPlan v.system (path_at c e.node) → (most : Option ℕ) → Right v.system TopK most (prefixes c es)
      → KeepsPending v.system most (prefixes c es) (prefixes c new)
  keeps off most right = record {
    right = turns.goes_right v.system TopK most (path_at c e.node) (prefixes c es) right inside good (prefixes c kids)
        (prefixes c new) taken theirs.counted off;
    stays = turns.goes_stays v.system TopK most (path_at c e.node) (prefixes c es) right inside good (prefixes c kids)
        (prefixes c new) taken theirs.counted off;
  }

  gives : IsSystemPlan v.system (path_at c e.node) → GivesPrefixPlan v.system e (prefixes c es) (prefixes c new) (path_at c e.node)
  gives plan most right cheap =
      let le : cost_in_system v.system (path_at c e.node) ≤ e.bound.0 = omega (arith, entry.cost, entry.least) in
      let fits : cost_in_system v.system (path_at c e.node) ≤ top most = omega (arith, entry.cost, cheap) in (
        turns.gives_right v.system TopK most (path_at c e.node) (prefixes c es) right inside good (prefixes c kids) (prefixes c new) taken theirs.counted fits,
        turns.gives v.system TopK most (path_at c e.node) (prefixes c es) right inside good (prefixes c kids)
            (prefixes c new) taken theirs.counted (λ p q. refl) e.bound.0
            (bounds_first v f c e es each_old sorted) le plan fits,
      )

  -- what waited is as if the tree had grown before
  goes : ¬ IsSystemPlan v.system (path_at c e.node) → GoesOnByPrefix v f x after
  goes off most = subst (λ (ps : List (List ℕ)). Right v.system TopK most ps
      → KeepsPending v.system most ps (waiting_prefixes after) × (prefix_work (known_to_go f) new < prefix_work (known_to_go f) es)) same
      (λ right. (keeps off most right, less off))

  opened : (o : Option (List ℕ)) → IsEndEntryPlan c e o → OpensPrefix v f e x after o
  opened None off = goes (λ p. valid_clash (entry.plan.1 p) off)
  opened (Some p) on = subst (λ (ps : List (List ℕ)). GivesPrefixPlan v.system e ps (waiting_prefixes after) p) same
      (subst (GivesPrefixPlan v.system e (prefixes c es) (prefixes c new)) (sym on.1) (gives (entry.plan.0 on.0)))

  plan_on : (o : Option (List ℕ)) → IsEndEntryPlan a e o → IsEndEntryPlan c e o
  plan_on None h = h
  plan_on (Some p) h = (h.0, h.1 ∙ sym path)

  pub open_opens : (o : Option (List ℕ)) → IsEndEntryPlan a e o → OpensPrefix v f e x after o
  open_opens o h = opened o (plan_on o h)

-- the first entry gave way to what was learned of it
module _ {Set : Type 0} (v : View Set) (f : CostToGo Set) (x : Front) (q : Queue) (e : Entry)
    (first : IsPrefixFirst e (queued_entries x.queue)) (off : IsFalse e.settled) (more : IsOutdated (known_to_go f) e)
    (z : PrefixFrontStands v f x) where
  abbrev nodes : List Node
  nodes = x.tree.items

  abbrev had : List Entry
  had = queued_entries x.queue

  abbrev has : List Entry
  has = queued_entries q

  learned_less : (o : Option Entry) → IsBetterEnd v f nodes e o → IsPermutation (had ++ entry_alone o) (e ∷ has)
      → prefix_work (known_to_go f) has < prefix_work (known_to_go f) had
  learned_less o better perm = learn_less (known_to_go f) had (entry_alone o) has e
      (entries_replaced had (entry_alone o) has e perm) (unranked_dated (known_to_go f) e off more)
      (fresh_of v f x.graph nodes had has e o better)

  learned_keeps : (o : Option Entry) → IsBetterEnd v f nodes e o → IsPermutation (had ++ entry_alone o) (e ∷ has)
      → (most : Option ℕ) → Right v.system TopK most (prefixes nodes had)
      → KeepsPending v.system most (prefixes nodes had) (prefixes nodes has)
  learned_keeps None lost perm most right =
      let good = good_at v f x.graph nodes had e z (first_is (IsEndEntry v f nodes) had e first.some first.first z.each) in
      let inside = first_in nodes had e first.some first.first in
      let taken = replaced_by had [] has e perm nodes in
      record {
        right = turns.lost_right v.system TopK most (path_at nodes e.node) (prefixes nodes had) right inside good lost (prefixes nodes has) taken;
        stays = turns.lost_stays v.system TopK most (path_at nodes e.node) (prefixes nodes had) right inside good lost (prefixes nodes has) taken;
      }
  learned_keeps (Some k) h perm most right =
      let path : path_at nodes k.node ≡ path_at nodes e.node = ap (path_at nodes) h.0 in
      let back : Replaced (prefixes nodes had) (path_at nodes k.node ∷ []) (path_at nodes e.node)
      (prefixes nodes has) = replaced_by had (k ∷ []) has e perm nodes in
      let taken = subst (λ (p : List ℕ). Replaced (prefixes nodes had) (p ∷ []) (path_at nodes e.node) (prefixes nodes has)) path back in
      record {
        right = turns.back_right v.system TopK (path_at nodes e.node) (prefixes nodes had) (prefixes nodes has) taken most right;
        stays = turns.back_stays v.system TopK (path_at nodes e.node) (prefixes nodes had) (prefixes nodes has) taken;
      }

  pub learned_goes : Learned v f nodes e had has → GoesOnByPrefix v f x (record x { queue = q })
  learned_goes (o, better, perm) most right = (learned_keeps o better perm most right, learned_less o better perm)

-- What turns do to what stands and to what pends.
use Rattle.std.proofs.Common.{◌≡◌, ℕ, suc, ◌+◌, ◌<◌, ◌≤◌, ◌⊎◌, inl, inr, Bool, IsTrue, IsFalse, List, [], ◌∷◌, ◌++◌, length, slice_index_or, Option, Some, None, sym, ◌∙◌, ap, subst, arith}
use Rattle.std.specs.List.{AllByRecursion}
use Rattle.std.specs.List.Sorted.{IsPermutation}
use Rattle.std.proofs.lemmas.List.{length-append}
use Rattle.std.proofs.lemmas.List.Elements.{recursion_from_All}
use Rattle.std.proofs.lemmas.List.Sorted.{length_permutation}
use Rattle.symk_task.specs.declared.parts.Mode.TheVariants.{TopK}
use Rattle.task_system.specs.System.{System, Listed, cost_in_system}
use Rattle.space_api.specs.View.{View}
use Rattle.lazy_plans.specs.Law.{PendsAlike, top}
use Rattle.cost_to_go.specs.declared.search.CostToGo.{CostToGo}
use Rattle.lazy_plans.specs.Queue.{Replaced}
use Rattle.prefix_tree.specs.StateGraph.{states_of, numbered_state, IsStateGraph}
use Rattle.prefix_tree.specs.Tree.{GrowsTree, path_at, end_at}
use Rattle.prefix_tree.specs.Entries.{queued_entries, prefixes, entry_alone}
use Rattle.prefix_tree.specs.declared.state_graph.StateGraph.{StateGraph}
use Rattle.prefix_tree.specs.declared.tree.Node.{Node}
use Rattle.prefix_tree.specs.declared.entry.Entry.{Entry}
use Rattle.prefix_tree.proofs.Entries.{prefixes_like, first_is, entries_replaced, replaced_by, each_new}
use Rattle.stubborn_sets.specs.Stubborn.{Stubborn}
use Rattle.selectors.specs.Members.{GaveMember}
use Rattle.prefix_plans.specs.Left.{KnownToGo, known_to_go}
use Rattle.prefix_plans.specs.EndChildren.{IsEndEntry, IsOutdated, outdated}
use Rattle.prefix_plans.specs.EndStanding.{IsEndReady, Learned, all_outdated}
use Rattle.prefix_plans.proofs.Dating.{outdated_replaced, unranked_dated}
use Rattle.prefix_plans.proofs.EndsGrowing.{each_like}
use Rattle.prefix_plans.proofs.Replacing.{each_of_new, ready_grown, fresh_of}
use Rattle.member_laws.specs.Nodes.{IsJoinedAtNode, CoversOpened, PendsNode, MetOrNone}
use Rattle.member_laws.specs.Opening.{Opening, ReachedBelow}
use Rattle.member_laws.proofs.Covering as covering
use Rattle.member_laws.proofs.Pending as pending
use Rattle.member_plans.specs.Children.{AreEnough}
use Rattle.member_plans.specs.Opened.{opened_of, AreOpened, AddsKey}
use Rattle.member_plans.specs.Front.{waiting_members, opened, IsSteady, IsDue}
use Rattle.member_plans.specs.declared.front.Front.{Front}
use Rattle.member_plans.proofs.Beside.{first_entry, bounds_least}
use Rattle.member_plans.proofs.Table.{opened_last, opened_like, table_inside, table_like, table_put}

-- How many entries wait, and how many of them are out of date.

few : (o : Option Entry) → length (entry_alone o) ≤ 1
few None = omega arith
few (Some k) = omega arith

pub less_learned : (known : KnownToGo) (es kids new : List Entry) (e : Entry) → IsPermutation (es ++ kids) (e ∷ new)
    → length kids ≤ 1 → all_outdated known kids ≡ 0 → outdated known e ≡ 1
    → length new + all_outdated known new < length es + all_outdated known es
less_learned known es kids new e perm one fresh own =
    numbers (length es) (length kids) (length new) (all_outdated known es) (all_outdated known new)
    (counted (length (es ++ kids)) (length es) (length kids) (length new) (length-append es kids) (sym (length_permutation (es ++ kids) (e ∷ new) perm))) one
    (gone (all_outdated known es) (all_outdated known kids) (outdated known e) (all_outdated known new)
    (outdated_replaced known es kids new e (entries_replaced es kids new e perm)) fresh own)
  where
    counted : (whole a b c : ℕ) → whole ≡ a + b → whole ≡ suc c → a + b ≡ 1 + c
    counted whole a b c p q = omega (arith, p, q)

    gone : (o k s n : ℕ) → o + k ≡ s + n → k ≡ 0 → s ≡ 1 → o ≡ 1 + n
    gone o k s n h z w = omega (arith, h, z, w)

    numbers : (a b c o n : ℕ) → a + b ≡ 1 + c → b ≤ 1 → o ≡ 1 + n → c + n < a + o
    numbers a b c o n h one g = omega (arith, h, one, g)

pub less_dropped : (known : KnownToGo) (es new : List Entry) (e : Entry) → IsPermutation (es ++ []) (e ∷ new)
    → length new + all_outdated known new < length es + all_outdated known es
less_dropped known es new e perm =
    numbers (length es) (length new) (all_outdated known es) (outdated known e) (all_outdated known new)
    (counted (length (es ++ [])) (length es) (length new) (length-append es []) (sym (length_permutation (es ++ []) (e ∷ new) perm)))
    (outdated_replaced known es [] new e (entries_replaced es [] new e perm))
  where
    counted : (whole a c : ℕ) → whole ≡ a + 0 → whole ≡ suc c → a ≡ 1 + c
    counted whole a c p q = omega (arith, p, q)

    numbers : (a c o s n : ℕ) → a ≡ 1 + c → o + 0 ≡ s + n → c + n < a + o
    numbers a c o s n h t = omega (arith, h, t)

module _ {Set : Type 0} (v : View Set) (f : CostToGo Set) (m : StateGraph) (nodes : List Node) (es new : List Entry)
    (e : Entry) (opened : List (List ℕ)) (covers : CoversOpened v.system opened (prefixes nodes es)) where
  -- what was learned of the first entry
  pub learned_covers : Learned v f nodes e es new → CoversOpened v.system opened (prefixes nodes new)
  learned_covers (None, lost, perm) = covering.hopeless_goes v.system (path_at nodes e.node) opened
      (prefixes nodes es) (prefixes nodes new) covers lost (replaced_by es [] new e perm nodes)
  learned_covers (Some k, better, perm) =
      let path : path_at nodes k.node ≡ path_at nodes e.node = ap (path_at nodes) better.0 in
      let taken : Replaced (prefixes nodes es) (path_at nodes e.node ∷ []) (path_at nodes e.node)
      (prefixes nodes new) = subst (λ (p : List ℕ). Replaced (prefixes nodes es) (p ∷ []) (path_at nodes e.node)
      (prefixes nodes new)) path (replaced_by es (k ∷ []) new e perm nodes) in
      covering.comes_back v.system (path_at nodes e.node) opened (prefixes nodes es) (prefixes nodes new) covers taken

  pub learned_less : IsFalse e.settled → IsOutdated (known_to_go f) e → Learned v f nodes e es new
      → length new + all_outdated (known_to_go f) new < length es + all_outdated (known_to_go f) es
  learned_less off more (o, better, perm) = less_learned (known_to_go f) es (entry_alone o) new e perm (few o)
      (fresh_of v f m nodes es new e o better) (unranked_dated (known_to_go f) e off more)

  -- the first entry joins one that was opened, and is left out
  pub dropped_covers : IsJoinedAtNode v.system opened (path_at nodes e.node) → IsPermutation (es ++ []) (e ∷ new)
      → CoversOpened v.system opened (prefixes nodes new)
  dropped_covers joined perm = covering.joined_goes v.system (path_at nodes e.node) opened (prefixes nodes es)
      (prefixes nodes new) covers joined (replaced_by es [] new e perm nodes)

  pub dropped_each : AllByRecursion (IsEndEntry v f nodes) es → IsPermutation (es ++ []) (e ∷ new) → AllByRecursion (IsEndEntry v f nodes) new
  dropped_each each perm = each_new es [] new e perm (IsEndEntry v f nodes) each tt

-- the tree grew, and all else is as it was
module _ {Set : Type 0} (v : View Set) (f : CostToGo Set) (most : Option ℕ) (m n : StateGraph) (a c : List Node)
    (es : List Entry) (places : List ℕ) (keys : List (List ℕ))
    (graph : IsStateGraph v.system n) (g : GrowsTree v.system TopK (states_of n) a c) (z : IsEndReady v f m a es)
    (table : AreOpened v.system most a places keys) where
  pub grown_ready : IsEndReady v f n c es
  grown_ready = ready_grown v f m n a c es graph g z

  pub grown_table : AreOpened v.system most c places keys
  grown_table = table_like a c g.longer g.paths g.ends v.system most keys places table

  pub grown_opened : opened_of c places ≡ opened_of a places
  grown_opened = opened_like a c g.longer g.paths g.ends places (table_inside v.system most a places keys table)

  pub grown_prefixes : prefixes c es ≡ prefixes a es
  grown_prefixes = prefixes_like (IsEndEntry v f a) a c es (λ k w. w.inside) g.paths z.each

  pub grown_covers : CoversOpened v.system (opened_of a places) (prefixes a es) → CoversOpened v.system (opened_of c places) (prefixes c es)
  grown_covers k = subst (λ (o : List (List ℕ)). CoversOpened v.system o (prefixes c es)) (sym grown_opened)
      (subst (CoversOpened v.system (opened_of a places)) (sym grown_prefixes) k)

  -- the first entry is opened: its children come
  module _ (e : Entry) (some : 0 < length es) (first : e ≡ slice_index_or es 0 e) (cheap : e.bound.0 ≤ top most)
      (covers : CoversOpened v.system (opened_of a places) (prefixes a es))
      (kids new : List Entry) (more : List (List ℕ)) (enough : AreEnough v f c (path_at a e.node)
      (end_at (states_of n) a e.node) kids) (perm : IsPermutation (es ++ kids) (e ∷ new))
      (put : AddsKey c e.node e.at_goal keys more) where
    old_entry : IsEndEntry v f a e
    old_entry = first_is (IsEndEntry v f a) es e some first z.each

    entry : IsEndEntry v f c e
    entry = first_is (IsEndEntry v f c) es e some first (each_like v f a c g.longer g.paths es z.each)

    path : path_at c e.node ≡ path_at a e.node
    path = g.paths e.node old_entry.inside

    pub opened_ready : IsEndReady v f n c new
    opened_ready = record {
      alone = z.alone;
      graph = graph;
      tree = g.tree;
      each =
          each_new es kids new e perm (IsEndEntry v f c) (each_like v f a c g.longer g.paths es z.each)
          (each_of_new v f c kids enough.chosen.each);
    }

    fits : cost_in_system v.system (path_at c e.node) ≤ top most
    fits = omega (arith, entry.cost, entry.least, cheap)

    pub opened_table : AreOpened v.system most c (places ++ e.node ∷ []) more
    opened_table = table_put v.system most c places keys more grown_table e.node entry.inside fits e.at_goal entry.plan put

    pub opened_is : opened_of c (places ++ e.node ∷ []) ≡ opened_of a places ++ path_at a e.node ∷ []
    opened_is = opened_last c places e.node ∙ (ap (λ (o : List (List ℕ)). o ++ path_at c e.node ∷ []) grown_opened
        ∙ ap (λ (p : List ℕ). opened_of a places ++ p ∷ []) path)

    reached : ReachedBelow v.system enough.set (opened_of c places) (prefixes c es) (path_at c e.node)
        (end_at (states_of n) c e.node) v.system.operators (prefixes c kids)
    reached op lt on applies = subst (λ (p : List ℕ). Listed (prefixes c kids) (p ++ op ∷ []) ⊎ MetOrNone v.system
        (opened_of c places) (prefixes c es) (p ++ op ∷ [])) (sym path) (elim (enough.chosen.all op lt on) [
          | inl none ↦ inr (inr none)
          | inr l ↦ inl l
        ])

    opening : Opening v.system (opened_of c places) (prefixes c es) (prefixes c kids) (path_at c e.node)
    opening = record {
      end = end_at (states_of n) c e.node;
      runs = (g.tree.each e.node entry.inside).runs;
      set = enough.set;
      stubborn = subst (λ (k : ℕ). Stubborn v.system enough.set (numbered_state (states_of n) k)) (sym (g.ends e.node old_entry.inside)) enough.stubborn;
      reached = reached;
    }

    pub opened_covers : CoversOpened v.system (opened_of c (places ++ e.node ∷ [])) (prefixes c new)
    opened_covers = subst (λ (o : List (List ℕ)). CoversOpened v.system o (prefixes c new))
        (sym (opened_last c places e.node)) (covering.opening_covers v.system (path_at c e.node)
        (opened_of c places) (prefixes c es) (prefixes c kids) (prefixes c new) (grown_covers covers) opening
        (replaced_by es kids new e perm c))

-- the first entry was opened, which is no plan
pub pass_same : {Set : Type 0} (v : View Set) (f : CostToGo Set) (nodes : List Node) (e : Entry)
    (old new : List (List ℕ)) → IsEndEntry v f nodes e → IsFalse e.at_goal → new ≡ old ++ path_at nodes e.node ∷ []
    → PendsAlike (PendsNode v.system old) (PendsNode v.system new)
pass_same v f nodes e old new z off is = subst (λ (o : List (List ℕ)). PendsAlike (PendsNode v.system old)
    (PendsNode v.system o)) (sym is) (pending.opening_keeps v.system (path_at nodes e.node) old
    (λ plan. clash e.at_goal (z.plan.1 plan) off))
  where
    clash : (b : Bool) → IsTrue b → IsFalse b → ⊥
    clash b on off = cc

-- what pends is the same where the same was opened
pub stays_same : (y : System) (old new : List (List ℕ)) → new ≡ old → PendsAlike (PendsNode y old) (PendsNode y new)
stays_same y old new is = subst (λ (o : List (List ℕ)). PendsAlike (PendsNode y old) (PendsNode y o)) (sym is) (λ p. ((λ h. h), (λ h. h)))

-- it is a plan that is due
pub give_gives : {Set : Type 0} (v : View Set) (f : CostToGo Set) (most : Option ℕ) (x z : Front) (e : Entry)
    → IsSteady v f most x → IsDue v.system most x e → opened z ≡ opened x ++ path_at x.tree.items e.node ∷ []
    → GaveMember v.system most (PendsNode v.system (opened x)) (PendsNode v.system (opened z)) (path_at x.tree.items e.node)
give_gives v f most x z e s d is =
    let path = path_at x.tree.items e.node in
    let k = first_entry v f x.graph x.tree.items (queued_entries x.queue) (queued_entries x.other) e d.some d.first s.ready in
    let le : cost_in_system v.system (path_at x.tree.items e.node) ≤ e.bound.0 = omega (arith, k.cost, k.least) in
    let least = bounds_least v f x.tree.items e (waiting_members x) s.ready.each
    (recursion_from_All (λ i. e.bound.0 ≤ i.bound.0) (waiting_members x) d.least) in
    subst (λ (o : List (List ℕ)). GaveMember v.system most (PendsNode v.system (opened x)) (PendsNode v.system o) path) (sym is)
    (pending.opening_gives v.system (opened x) (prefixes x.tree.items (waiting_members x)) s.serves.lists s.covers most
    e.bound.0 path least (k.plan.0 d.plan) d.fresh le (omega (arith, le, d.cheap)))

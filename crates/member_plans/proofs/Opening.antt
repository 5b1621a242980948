-- The first entry is opened.
use Rattle.std.proofs.Common.{◌≡◌, ℕ, ◌+◌, ◌<◌, ◌≤◌, ◌^◌, List, [], ◌∷◌, ◌++◌, length, slice_index_or, IsFalse, Option, Result, Ok, Err, OnOk, OnErr, sym, ◌∙◌, ap, subst, arith}
use Rattle.std.specs.List.Sorted.{IsPermutation}
use Rattle.std.proofs.lemmas.List.{length-append}
use Rattle.symk_task.specs.declared.parts.Mode.TheVariants.{TopK}
use Rattle.space_api.specs.View.{View}
use Rattle.lazy_plans.specs.Law.{top}
use Rattle.cost_to_go.specs.declared.search.CostToGo.{CostToGo}
use Rattle.prefix_tree.specs.StateGraph.{states_of, IsStateGraph}
use Rattle.prefix_tree.specs.Tree.{GrowsTree, path_at, end_at}
use Rattle.prefix_tree.specs.Entries.{queued_entries, prefixes}
use Rattle.prefix_tree.specs.declared.entry.Entry.{Entry}
use Rattle.prefix_tree.specs.declared.queue.Queue.{Queue}
use Rattle.prefix_plans.specs.EndChildren.{IsEndEntry}
use Rattle.prefix_plans.specs.EndStanding.{IsEndReady}
use Rattle.member_laws.specs.Nodes.{CoversOpened}
use Rattle.member_plans.specs.Moves.{Serves}
use Rattle.member_plans.specs.Children.{AreEnough}
use Rattle.member_plans.specs.Opened.{places_of_opened, keys_of, opened_of, AreOpened, AddsKey, AddsPlace}
use Rattle.member_plans.specs.Front.{waiting_members, opened_places, opened, IsSteady, FollowsTurns}
use Rattle.member_plans.specs.declared.front.Front.{Front}
use Rattle.member_plans.specs.declared.given.Given.{Given}
use Rattle.member_plans.specs.declared.opened.Opened.{Opened}
use Rattle.member_plans.proofs.Turning.{grown_ready, grown_table, grown_opened, grown_covers, opened_ready, opened_table, opened_is, opened_covers, pass_same, stays_same}

-- what was opened is told otherwise
abbrev pub retold : Front → Opened → Front
retold x o = record x { opened = o }

module _ {Set : Type 0} (v : View Set) (f : CostToGo Set) (most : Option ℕ) (x : Front) (o : Opened)
    (same : places_of_opened o ≡ opened_places x) (keys : keys_of o ≡ keys_of x.opened) (z : IsSteady v f most x) where
  pub retold_steady : IsSteady v f most (retold x o)
  retold_steady = record {
    ready = z.ready;
    serves = z.serves;
    table = subst (λ (ks : List (List ℕ)). AreOpened v.system most x.tree.items (places_of_opened o) ks) (sym keys)
        (subst (λ (is : List ℕ). AreOpened v.system most x.tree.items is (keys_of x.opened)) (sym same) z.table);
    covers = subst (λ (is : List ℕ). CoversOpened v.system (opened_of x.tree.items is) (prefixes x.tree.items (waiting_members x))) (sym same) z.covers;
  }

  pub retold_opened : opened (retold x o) ≡ opened x
  retold_opened = ap (opened_of x.tree.items) same

  pub retold_follows : FollowsTurns v f most x (retold x o)
  retold_follows = record {
    steady = retold_steady;
    same = stays_same v.system (opened x) (opened (retold x o))
        retold_opened;
    more = at_most (length (opened_places x)) (length (places_of_opened o))
        (ap (λ (is : List ℕ). length is) same);
  }
    where
      at_most : (a b : ℕ) → b ≡ a → a ≤ b
      at_most a b e = omega (arith, e)

-- more is known of the plans that were given
abbrev pub regiven : Front → Given → Front
regiven x g = record x { given = g }

pub regiven_steady : {Set : Type 0} (v : View Set) (f : CostToGo Set) (most : Option ℕ) (x : Front) (g : Given)
    → IsSteady v f most x → IsSteady v f most (regiven x g)
regiven_steady v f most x g z = record { ready = z.ready; serves = z.serves; table = z.table; covers = z.covers }

-- the tree grew from x to w
module _ {Set : Type 0} (v : View Set) (f : CostToGo Set) (most : Option ℕ) (x w : Front) (z : IsSteady v f most x)
    (graph : IsStateGraph v.system w.graph) (serves : Serves w.moves v.system)
    (g : GrowsTree v.system TopK (states_of w.graph) x.tree.items w.tree.items) (queue : waiting_members w ≡ waiting_members x)
    (same : w.opened ≡ x.opened) where
  pub grown_steady : IsSteady v f most w
  grown_steady = record {
    ready = subst (IsEndReady v f w.graph w.tree.items) (sym queue)
        (grown_ready v f most x.graph w.graph x.tree.items w.tree.items (waiting_members x) (opened_places x) (keys_of x.opened)
        graph g z.ready z.table);
    serves = serves;
    table = subst (λ (o : Opened). AreOpened v.system most w.tree.items (places_of_opened o) (keys_of o)) (sym same)
        (grown_table v f most x.graph w.graph x.tree.items w.tree.items (waiting_members x) (opened_places x) (keys_of x.opened)
        graph g z.ready z.table);
    covers = subst (λ (o : Opened). CoversOpened v.system (opened_of w.tree.items (places_of_opened o))
        (prefixes w.tree.items (waiting_members w))) (sym same) (subst
        (λ (es : List Entry). CoversOpened v.system (opened_of w.tree.items (opened_places x)) (prefixes w.tree.items es))
        (sym queue) (grown_covers v f most x.graph w.graph x.tree.items w.tree.items (waiting_members x) (opened_places x)
        (keys_of x.opened) graph g z.ready z.table z.covers));
  }

  pub grown_same : opened w ≡ opened x
  grown_same = ap (λ (o : Opened). opened_of w.tree.items (places_of_opened o)) same
      ∙ grown_opened v f most x.graph w.graph x.tree.items w.tree.items (waiting_members x) (opened_places x) (keys_of x.opened)
      graph g z.ready z.table

  pub grown_places : opened_places w ≡ opened_places x
  grown_places = ap places_of_opened same

  -- and the first entry gave way to its children
  module _ (e : Entry) (some : 0 < length (waiting_members x)) (first : e ≡ slice_index_or (waiting_members x) 0 e) (cheap : e.bound.0 ≤ top most)
      (kids : List Entry) (enough : AreEnough v f w.tree.items (path_at x.tree.items e.node)
      (end_at (states_of w.graph) x.tree.items e.node) kids) (q r : Queue)
      (perm : IsPermutation (waiting_members x ++ kids) (e ∷ (queued_entries q ++ queued_entries r))) (o : Opened)
      (added : AddsPlace w.tree.items e.node e.at_goal w.opened o) where
    abbrev after : Front
    after = record w { queue = q; other = r; opened = o }

    place : places_of_opened o ≡ opened_places x ++ e.node ∷ []
    place = added.places ∙ ap (λ (is : List ℕ). is ++ e.node ∷ []) grown_places

    put : AddsKey w.tree.items e.node e.at_goal (keys_of x.opened) (keys_of o)
    put = subst (λ (k : Opened). AddsKey w.tree.items e.node e.at_goal (keys_of k) (keys_of o)) same added.keys

    pub open_steady : IsSteady v f most after
    open_steady = record {
      ready = opened_ready v f most x.graph w.graph x.tree.items w.tree.items (waiting_members x) (opened_places x)
          (keys_of x.opened) graph g z.ready z.table e some first cheap z.covers kids (queued_entries q ++ queued_entries r)
          (keys_of o) enough perm put;
      serves = serves;
      table = subst (λ (is : List ℕ). AreOpened v.system most w.tree.items is (keys_of o)) (sym place)
          (opened_table v f most x.graph w.graph x.tree.items w.tree.items (waiting_members x) (opened_places x) (keys_of x.opened)
          graph g z.ready z.table e some first cheap z.covers kids (queued_entries q ++ queued_entries r)
          (keys_of o) enough perm put);
      covers = subst (λ (is : List ℕ). CoversOpened v.system (opened_of w.tree.items is)
          (prefixes w.tree.items (queued_entries q ++ queued_entries r))) (sym place)
          (opened_covers v f most x.graph w.graph x.tree.items w.tree.items (waiting_members x) (opened_places x)
          (keys_of x.opened) graph g z.ready z.table e some first cheap z.covers kids (queued_entries q ++ queued_entries r)
          (keys_of o) enough perm put);
    }

    pub open_opened : opened after ≡ opened x ++ path_at x.tree.items e.node ∷ []
    open_opened = ap (opened_of w.tree.items) place ∙ opened_is v f most x.graph w.graph x.tree.items w.tree.items
        (waiting_members x) (opened_places x) (keys_of x.opened) graph g z.ready z.table e some first cheap z.covers kids
        (queued_entries q ++ queued_entries r) (keys_of o) enough perm put

    pub open_more : length (opened_places x) < length (places_of_opened o)
    open_more = longer (length (opened_places x)) (length (places_of_opened o))
        (ap (λ (is : List ℕ). length is) place ∙ length-append (opened_places x) (e.node ∷ []))
      where
        longer : (a b : ℕ) → b ≡ a + 1 → a < b
        longer a b e = omega (arith, e)

-- an entry that is no plan was opened, or memory was refused
module _ {Set : Type 0} (v : View Set) (f : CostToGo Set) (most : Option ℕ) (x z : Front) (e : Entry)
    (entry : IsEndEntry v f x.tree.items e) (off : IsFalse e.at_goal) (steady : IsSteady v f most z) where
  pub pass_follows : {X E : Type 0} (r : Result X E) → OnOk r
      (opened z ≡ opened x ++ path_at x.tree.items e.node ∷ []) → OnErr r (opened z ≡ opened x)
      → OnOk r (length (opened_places x) < length (opened_places z)) → OnErr r (opened_places z ≡ opened_places x) → FollowsTurns v f most x z
  pass_follows (Ok u) ok err more same = record {
    steady = steady;
    same = pass_same v f x.tree.items e (opened x)
        (opened z) entry off ok;
    more = omega (arith, more);
  }
  pass_follows (Err u) ok err more same = record {
    steady = steady;
    same = stays_same v.system (opened x) (opened z)
        err;
    more = at_most (length (opened_places x)) (length (opened_places z)) (ap (λ (is : List ℕ). length is) same);
  }
    where
      at_most : (a b : ℕ) → b ≡ a → a ≤ b
      at_most a b e = omega (arith, e)

pub fits_on : {X E : Type 0} (o : Opened) (r : Result X E) → length (places_of_opened o) < 2 ^ 64 → OnOk r (length (places_of_opened o) < 2 ^ 64)
fits_on o (Ok u) h = h
fits_on o (Err u) h = tt

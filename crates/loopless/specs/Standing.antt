-- What holds of a queue of prefixes between two turns, and what the search back may do meanwhile.
use Rattle.std.specs.Prelude.{◌≡◌, ℕ, ◌+◌, ◌*◌, ◌-◌, ◌<◌, ◌≤◌, ◌^◌, ◌⊎◌, cond, IsTrue, IsFalse, List, [], ◌∷◌, Option, Some, None}
use Rattle.std.specs.List.{AllByRecursion}
use Rattle.task_system.specs.System.{State, System}
use Rattle.space_api.specs.View.{View, Valid, Has}
use Rattle.space_api.specs.Owned.{Trades}
use Rattle.cost_search.specs.Search.{IsOwn, within_of}
use Rattle.cost_search.specs.Directed.{Backward, IsBackward, search_of}
use Rattle.symk_task.specs.declared.parts.Mode.TheVariants.{Loopless}
use Rattle.lazy_plans.specs.Law.{Gave, PendsAlike, top}
use Rattle.lazy_plans.specs.Queue.{Hopeless, Right, Pending}
use Rattle.prefix_tree.specs.StateGraph.{states_of, IsStateGraph}
use Rattle.loopless.specs.declared.front.Front.{Front}
use Rattle.loopless.specs.Rests.{AreKeptRests}
use Rattle.prefix_tree.specs.Tree.{IsTree, GrowsTree, path_at}
use Rattle.prefix_tree.specs.declared.tree.Node.{Node}
use Rattle.prefix_tree.specs.declared.entry.Entry.{Entry}
use Rattle.space_api.specs.States.{IsReached}
use Rattle.lazy_plans.specs.Weight.{prefix_weight}
use Rattle.loopless.specs.Left.{IsWide}
use Rattle.loopless.specs.Children.{IsEntry}
use Rattle.loopless.specs.Front.{waiting, prefixes_of}

-- the search back went on: its sets alone were traded, and it is kept to the same set as before
pub record MovedBackward {Set : Type 0} (v w : View Set) (b h : Backward Set) : Type 0 where
  pub trades : Trades v w (IsOwn (search_of b)) (IsOwn (search_of h))
  pub within : within_of (search_of h) ≡ within_of (search_of b)
  pub states : (s : State) → w.has (within_of (search_of b)) s ≡ v.has (within_of (search_of b)) s

-- a is one of the sets of the search back, or the one that it is kept to
abbrev pub IsBeneathBackward : {Set : Type 0} → Backward Set → Set → Type 0
IsBeneathBackward b a = IsOwn (search_of b) a ⊎ (a ≡ within_of (search_of b))

-- the search back stands and is wide, and each valid set is one of it or the one that it is kept to
pub record IsAlone {Set : Type 0} (v : View Set) (b : Backward Set) : Type 0 where
  pub backward : IsBackward v b
  pub wide : IsWide v b
  pub keeps : (a : Set) → Valid v a → IsBeneathBackward b a

-- so, but for one set more, which has each state that is reached
pub record HasReached {Set : Type 0} (v : View Set) (b : Backward Set) (reached : Set) : Type 0 where
  pub backward : IsBackward v b
  pub wide : IsWide v b
  pub valid : Valid v reached
  pub states : (s : State) → IsReached v.system s → Has v reached s
  pub apart : ¬ IsBeneathBackward b reached
  pub keeps : (a : Set) → Valid v a → IsBeneathBackward b a ⊎ (a ≡ reached)

-- how much may still be learned of an entry's bound
abbrev pub stale : Entry → ℕ
stale e = cond e.settled 0 (2 ^ 64 + 1 + e.cost - e.bound.0)

abbrev pub all_stale : List Entry → ℕ
all_stale [] = 0
all_stale (e ∷ es) = stale e + all_stale es

-- no plan goes on from the prefix, or more is known of it
abbrev pub IsBetter : System → List Node → Entry → Option Entry → Type 0
IsBetter y nodes e None = Hopeless y Loopless (path_at nodes e.node)
IsBetter y nodes e (Some k) = (k.node ≡ e.node) × IsEntry y nodes k × (stale k < stale e)

-- what is left to do
abbrev pub work : System → Front → ℕ
work y f = 2 ^ 65 * prefix_weight y (prefixes_of f) + all_stale (waiting f)

-- The search back, the graph of states and what is left from them, the tree and the entries of the queue stand, and each
-- valid set is one of the search back or the one that it is kept to.
pub record IsLooplessReady {Set : Type 0} (v : View Set) (b : Backward Set) (f : Front) : Type 0 where
  pub alone : IsAlone v b
  pub graph : IsStateGraph v.system f.graph
  pub kept : AreKeptRests v.system (states_of f.graph) f.rests
  pub tree : IsTree v.system Loopless (states_of f.graph) f.tree.items
  pub each : AllByRecursion (IsEntry v.system f.tree.items) (waiting f)

-- prefixes were added, and the same wait
pub record IsGrown (y : System) (f h : Front) : Type 0 where
  pub graph : IsStateGraph y h.graph
  pub kept : AreKeptRests y (states_of h.graph) h.rests
  pub tree : GrowsTree y Loopless (states_of h.graph) f.tree.items h.tree.items
  pub queue : waiting h ≡ waiting f

-- the queue goes on: what pends is the same, and there is less to do
abbrev pub GoesOnLoopless : System → Front → Front → Type 0
GoesOnLoopless y f h = (most : Option ℕ) → Right y Loopless most (prefixes_of f)
    → Right y Loopless most (prefixes_of h) × PendsAlike (Pending y Loopless (prefixes_of f))
    (Pending y Loopless (prefixes_of h)) × (work y h < work y f)

-- the plan of the first entry is given, if no other has a lesser bound and it is cheap enough
abbrev pub GivesFirst : System → Front → Front → Entry → List ℕ → Type 0
GivesFirst y f h e p = (most : Option ℕ) → Right y Loopless most (prefixes_of f) → AllByRecursion (λ (k : Entry). e.bound.0 ≤ k.bound.0) (waiting f) → e.cost ≤ top most → Right y Loopless most (prefixes_of h) × Gave y Loopless most (Pending y Loopless (prefixes_of f)) (Pending y Loopless (prefixes_of h)) p

abbrev pub OpensLoopless : System → Front → Front → Entry → Option (List ℕ) → Type 0
OpensLoopless y f h e None = GoesOnLoopless y f h
OpensLoopless y f h e (Some p) = IsTrue e.at_goal × GivesFirst y f h e p

-- the plan that the entry is, if it is one
abbrev pub IsLooplessEntryPlan : List Node → Entry → Option (List ℕ) → Type 0
IsLooplessEntryPlan nodes e None = IsFalse e.at_goal
IsLooplessEntryPlan nodes e (Some p) = IsTrue e.at_goal × (p ≡ path_at nodes e.node)

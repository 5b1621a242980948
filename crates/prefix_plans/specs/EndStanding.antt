-- What holds of a queue of prefixes between two turns, and what the search may do meanwhile.
use Rattle.std.specs.Prelude.{◌≡◌, ℕ, ◌+◌, ◌⊎◌, IsTrue, IsFalse, List, [], ◌∷◌, ◌++◌, Option, Some, None}
use Rattle.std.specs.List.{AllByRecursion}
use Rattle.std.specs.List.Sorted.{IsPermutation}
use Rattle.space_api.specs.View.{View, Valid}
use Rattle.cost_to_go.specs.Standing.{IsCostToGo, IsOwnToGo, to_go_within}
use Rattle.cost_to_go.specs.declared.search.CostToGo.{CostToGo}
use Rattle.symk_task.specs.declared.parts.Mode.TheVariants.{TopK}
use Rattle.lazy_plans.specs.Queue.{Hopeless}
use Rattle.prefix_tree.specs.StateGraph.{states_of, IsStateGraph}
use Rattle.prefix_tree.specs.declared.state_graph.StateGraph.{StateGraph}
use Rattle.prefix_tree.specs.Entries.{entry_alone}
use Rattle.prefix_tree.specs.Tree.{IsTree, path_at}
use Rattle.prefix_tree.specs.declared.tree.Node.{Node}
use Rattle.prefix_tree.specs.declared.entry.Entry.{Entry}
use Rattle.prefix_plans.specs.Left.{KnownToGo}
use Rattle.prefix_plans.specs.EndChildren.{IsEndEntry, IsUpToDate, outdated}

-- a is one of the sets of the search, or the one that it is kept to
abbrev pub IsBeneathToGo : {Set : Type 0} → CostToGo Set → Set → Type 0
IsBeneathToGo f a = IsOwnToGo f a ⊎ (a ≡ to_go_within f)

-- the search stands, and each valid set is one of it or the one that it is kept to
pub record IsCostToGoAlone {Set : Type 0} (v : View Set) (f : CostToGo Set) : Type 0 where
  pub search : IsCostToGo v f
  pub keeps : (a : Set) → Valid v a → IsBeneathToGo f a

-- the search, the graph of states, the tree and an entry stand
pub record EndEntryStands {Set : Type 0} (v : View Set) (f : CostToGo Set) (m : StateGraph) (nodes : List Node) (e : Entry) : Type 0 where
  pub search : IsCostToGo v f
  pub graph : IsStateGraph v.system m
  pub tree : IsTree v.system TopK (states_of m) nodes
  pub entry : IsEndEntry v f nodes e

-- no plan goes on from the prefix, or the entry says of it what is known now
abbrev pub IsBetterEnd : {Set : Type 0} → View Set → CostToGo Set → List Node → Entry → Option Entry → Type 0
IsBetterEnd v f nodes e None = Hopeless v.system TopK (path_at nodes e.node)
IsBetterEnd v f nodes e (Some k) = (k.node ≡ e.node) × IsUpToDate v f nodes k

-- of how many entries the bound may be told better
abbrev pub all_outdated : KnownToGo → List Entry → ℕ
all_outdated known [] = 0
all_outdated known (e ∷ es) = outdated known e + all_outdated known es

-- The search, the graph of states, the tree and the entries of the queue stand, and each valid set is one of the search
-- or the one that it is kept to.
pub record IsEndReady {Set : Type 0} (v : View Set) (f : CostToGo Set) (m : StateGraph) (nodes : List Node) (es : List Entry) : Type 0 where
  pub alone : IsCostToGoAlone v f
  pub graph : IsStateGraph v.system m
  pub tree : IsTree v.system TopK (states_of m) nodes
  pub each : AllByRecursion (IsEndEntry v f nodes) es

-- the entry gave way to what is known of it now
abbrev pub Learned : {Set : Type 0} → View Set → CostToGo Set → List Node → Entry → List Entry → List Entry → Type 0
Learned v f nodes e old new = (o : Option Entry) × IsBetterEnd v f nodes e o × IsPermutation (old ++ entry_alone o) (e ∷ new)

-- the plan that the entry is, if it is one
abbrev pub IsEndEntryPlan : List Node → Entry → Option (List ℕ) → Type 0
IsEndEntryPlan nodes e None = IsFalse e.at_goal
IsEndEntryPlan nodes e (Some p) = IsTrue e.at_goal × (p ≡ path_at nodes e.node)

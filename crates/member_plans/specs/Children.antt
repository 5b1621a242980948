-- The children of a prefix by some of the moves.
use Rattle.std.specs.Prelude.{ℕ, ◌<◌, ◌⊎◌, Bool, IsTrue, List, [], ◌∷◌, ◌++◌}
use Rattle.std.specs.List.{AllByRecursion}
use Rattle.symk_task.specs.declared.parts.Mode.TheVariants.{TopK}
use Rattle.task_system.specs.System.{State, Listed}
use Rattle.space_api.specs.View.{View}
use Rattle.cost_to_go.specs.declared.search.CostToGo.{CostToGo}
use Rattle.lazy_plans.specs.Queue.{Hopeless}
use Rattle.prefix_tree.specs.Entries.{prefixes}
use Rattle.prefix_tree.specs.declared.tree.Node.{Node}
use Rattle.prefix_tree.specs.declared.entry.Entry.{Entry}
use Rattle.stubborn_sets.specs.Stubborn.{Stubborn}
use Rattle.prefix_plans.specs.EndChildren.{IsUpToDate}

-- each is new, and each operator of the set below n has its child among them, or no plan goes on by it
pub record AreChosenChildren {Set : Type 0} (v : View Set) (f : CostToGo Set) (nodes : List Node) (e : List ℕ)
    (set : ℕ → Bool) (n : ℕ) (kids : List Entry) : Type 0 where
  pub each : AllByRecursion (IsUpToDate v f nodes) kids
  pub all : (op : ℕ) → op < n → IsTrue (set op) → Hopeless v.system TopK (e ++ op ∷ []) ⊎ Listed (prefixes nodes kids) (e ++ op ∷ [])

-- they are those by a set that is stubborn in s
pub record AreEnough {Set : Type 0} (v : View Set) (f : CostToGo Set) (nodes : List Node) (e : List ℕ) (s : State) (kids : List Entry) : Type 0 where
  pub set : ℕ → Bool
  pub stubborn : Stubborn v.system set s
  pub chosen : AreChosenChildren v f nodes e set v.system.operators kids

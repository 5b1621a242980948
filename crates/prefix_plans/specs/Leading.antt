-- Whether a plan goes on from a prefix at all.
use Rattle.std.specs.Prelude.{◌≡◌, ◌<◌, ◌^◌, ◌↔◌, Bool, true, false, List, [], ◌++◌, ℕ, length}
use Rattle.std.specs.List.{AllByRecursion}
use Rattle.std.specs.List.Sorted.{IsPermutation}
use Rattle.symk_task.specs.declared.parts.Mode.TheVariants.{TopK}
use Rattle.task_system.specs.System.{State, System, Listed, RunsInSystem}
use Rattle.space_api.specs.View.{View, Has}
use Rattle.lazy_plans.specs.Queue.{Bounds, Hopeless}
use Rattle.prefix_tree.specs.Tree.{path_at}
use Rattle.prefix_tree.specs.Entries.{prefixes}
use Rattle.prefix_tree.specs.declared.tree.Node.{Node}
use Rattle.prefix_tree.specs.declared.entry.Entry.{Entry}
use Rattle.space_api.specs.States.{IsReached}
use Rattle.prefix_plans.specs.Left.{LeadsOn}

-- of the states that operators reach the set has those that lead to the goal
abbrev pub TellsLeading : {Set : Type 0} → View Set → Set → Type 0
TellsLeading v a = (s : State) → IsReached v.system s → Has v a s ↔ LeadsOn v.system s

-- some plan goes on from the prefix
abbrev pub GoesOnFrom : System → List ℕ → Type 0
GoesOnFrom y e = (s : State) × RunsInSystem y y.initial e s × LeadsOn y s

-- each plan that goes on from the prefix costs more than 64 bits hold
pub record IsDear (y : System) (nodes : List Node) (e : Entry) : Type 0 where
  pub inside : e.node < length nodes
  pub bounds : Bounds y (path_at nodes e.node) (2 ^ 64)

-- no plan goes on from the entry's prefix
pub record IsHopelessEntry (y : System) (nodes : List Node) (e : Entry) : Type 0 where
  pub inside : e.node < length nodes
  pub lost : Hopeless y TopK (path_at nodes e.node)

-- the new entries are the old ones without some from each of which no plan goes on
pub record DropsHopeless (y : System) (nodes : List Node) (old new : List Entry) : Type 0 where
  pub gone : List Entry
  pub hopeless : AllByRecursion (IsHopelessEntry y nodes) gone
  pub rest : IsPermutation old (gone ++ new)

-- some plan goes on from one of the entries; or there is none
abbrev pub TellsGoingOn : System → List Node → List Entry → Bool → Type 0
TellsGoingOn y nodes es true = (p : List ℕ) × Listed (prefixes nodes es) p × GoesOnFrom y p
TellsGoingOn y nodes es false = es ≡ []

-- The children of an entry.
use Rattle.std.specs.Prelude.{◌≡◌, ℕ, ◌<◌, ◌⊎◌, Bool, true, false, not, cond, IsTrue, List, [], ◌∷◌, ◌++◌, slice_index_or}
use Rattle.std.specs.List.{AllByRecursion}
use Rattle.symk_task.specs.declared.parts.Mode.TheVariants.{TopK}
use Rattle.task_system.specs.System.{System, Listed, IsSystemPlanOf}
use Rattle.space_api.specs.View.{View}
use Rattle.cost_to_go.specs.declared.search.CostToGo.{CostToGo}
use Rattle.lazy_plans.specs.Queue.{prefix, ind, count, sum_ops, Hopeless}
use Rattle.prefix_tree.specs.Entries.{prefixes}
use Rattle.prefix_tree.specs.declared.tree.Node.{Node}
use Rattle.prefix_tree.specs.declared.entry.Entry.{Entry}
use Rattle.prefix_plans.specs.EndChildren.{IsUpToDate}
use Rattle.prefix_plans.specs.declared.taking.Taken.{Taken}
use Rattle.prefix_plans.specs.declared.taking.Taken.TheVariants as taken

-- the operators whose moves are taken
abbrev pub is_taken : Taken → ℕ → Bool
is_taken taken.All op = true
is_taken (taken.Marked marks) op = slice_index_or marks.now op false
is_taken (taken.Unmarked marks) op = not (slice_index_or marks.now op false)

-- the children of e are counted as its extensions by the operators of the set below n are
abbrev pub CountsBelow : System → List ℕ → (ℕ → Bool) → ℕ → List (List ℕ) → Type 0
CountsBelow y e set n kids = (p : List ℕ) → IsSystemPlanOf y TopK p → count kids p ≡ sum_ops n (λ op. cond (set op) (ind (prefix (e ++ op ∷ []) p)) 0)

-- the children of e by the operators of the set below n
pub record AreChildrenBy {Set : Type 0} (v : View Set) (f : CostToGo Set) (nodes : List Node) (e : List ℕ)
    (set : ℕ → Bool) (n : ℕ) (kids : List Entry) : Type 0 where
  pub each : AllByRecursion (IsUpToDate v f nodes) kids
  pub counted : CountsBelow v.system e set n (prefixes nodes kids)
  pub all : (op : ℕ) → op < n → IsTrue (set op) → Hopeless v.system TopK (e ++ op ∷ []) ⊎ Listed (prefixes nodes kids) (e ++ op ∷ [])

-- the same by all operators below n
abbrev pub ArePrefixChildren : {Set : Type 0} → View Set → CostToGo Set → List Node → List ℕ → ℕ → List Entry → Type 0
ArePrefixChildren v f nodes e n kids = AreChildrenBy v f nodes e (λ op. true) n kids

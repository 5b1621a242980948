-- Entries of the queue, and the children of one.
use Rattle.std.specs.Prelude.{◌≡◌, ℕ, cond, nat_lt, ◌+◌, ◌*◌, ◌-◌, ◌<◌, ◌≤◌, ◌^◌, ◌⊎◌, ◌||◌, IsTrue, List, [], ◌∷◌, ◌++◌, length}
use Rattle.std.specs.Bool.{Decides}
use Rattle.symk_task.specs.declared.parts.Mode.TheVariants.{TopK}
use Rattle.task_system.specs.System.{State, RunsInSystem, IsSystemPlan, cost_in_system}
use Rattle.space_api.specs.View.{View}
use Rattle.cost_to_go.specs.Standing.{to_go_ranks}
use Rattle.cost_to_go.specs.declared.search.CostToGo.{CostToGo}
use Rattle.lazy_plans.specs.Queue.{Bounds, Hopeless}
use Rattle.prefix_tree.specs.Tree.{path_at}
use Rattle.prefix_tree.specs.declared.tree.Node.{Node}
use Rattle.prefix_tree.specs.declared.entry.Entry.{Entry}
use Rattle.prefix_plans.specs.Left.{KnownToGo, known_to_go, bound_at, IsRanked}

-- the prefix ends in a state that is ranked so
abbrev pub EndsRanked : {Set : Type 0} → View Set → CostToGo Set → List ℕ → ℕ → ℕ → Type 0
EndsRanked v f p c i = (s : State) × RunsInSystem v.system v.system.initial p s × IsRanked v f c i s

-- what an entry says of its prefix is so; no rank of a number below its ring has the end of it
pub record IsEndEntry {Set : Type 0} (v : View Set) (f : CostToGo Set) (nodes : List Node) (e : Entry) : Type 0 where
  pub inside : e.node < length nodes
  pub cost : e.cost ≡ cost_in_system v.system (path_at nodes e.node)
  pub roomy : e.cost ≤ (2 ^ 64 - 1) * e.node
  pub least : e.cost ≤ e.bound.0
  pub span : e.bound.0 ≤ e.cost + 2 ^ 64
  pub ring : e.ring.0 < 2 ^ 64
  pub seen : e.ring.0 ≤ to_go_ranks f
  pub range : e.bound.0 < 2 ^ 128
  pub bounds : Bounds v.system (path_at nodes e.node) e.bound.0
  pub plan : Decides e.at_goal (IsSystemPlan v.system (path_at nodes e.node))
  pub ranked : IsTrue e.settled → EndsRanked v f (path_at nodes e.node) (e.bound.0 - e.cost) e.ring.0
  pub looked : (c i : ℕ) → i < e.ring.0 → ¬ EndsRanked v f (path_at nodes e.node) c i

-- what is known of the end of the prefix stands in the entry
abbrev pub TellsRank : {Set : Type 0} → View Set → CostToGo Set → List Node → Entry → Type 0
TellsRank v f nodes e = (c i : ℕ) → EndsRanked v f (path_at nodes e.node) c i → (e.bound.0 ≡ e.cost + c) × (e.ring.0 ≡ i)

-- there are ranks that weren't looked at, or more is known than the bound says
abbrev pub IsOutdated : KnownToGo → Entry → Type 0
IsOutdated known e = (e.ring.0 < known.many) ⊎ (e.bound.0 < bound_at known.next e.cost)

-- 1 where an entry is so, whose last state was not ranked, else 0
abbrev pub outdated : KnownToGo → Entry → ℕ
outdated known e = cond e.settled 0 (cond (nat_lt e.ring.0 known.many || nat_lt e.bound.0 (bound_at known.next e.cost)) 1 0)

-- an entry that says all that the search knows now
abbrev pub IsUpToDate : {Set : Type 0} → View Set → CostToGo Set → List Node → Entry → Type 0
IsUpToDate v f nodes e = IsEndEntry v f nodes e × TellsRank v f nodes e × (outdated (known_to_go f) e ≡ 0)

-- the child by this operator was added, or no plan goes on so
abbrev pub AddsPrefixChild : {Set : Type 0} → View Set → CostToGo Set → List Node → List ℕ → ℕ → List Entry → List Entry → Type 0
AddsPrefixChild v f nodes e op old new = ((new ≡ old) × Hopeless v.system TopK (e ++ op ∷ []))
    ⊎ ((k : Entry) × (new ≡ old ++ k ∷ []) × IsUpToDate v f nodes k × (path_at nodes k.node ≡ e ++ op ∷ []))

-- Where an operator leads from the end of a prefix.
use Rattle.std.specs.Prelude.{◌≡◌, ◌<◌, ◌^◌, ℕ, IsTrue, List, [], ◌∷◌, ◌++◌, Option, Some, None}
use Rattle.std.specs.Bool.{Decides}
use Rattle.symk_task.specs.declared.parts.Mode.TheVariants.{TopK}
use Rattle.task_system.specs.System.{cost_in_system}
use Rattle.space_api.specs.View.{View}
use Rattle.cost_to_go.specs.declared.search.CostToGo.{CostToGo}
use Rattle.lazy_plans.specs.Queue.{Good, Hopeless}
use Rattle.prefix_plans.specs.Left.{IsKnown}
use Rattle.prefix_plans.specs.declared.reach.Reached.{Reached}

-- the prefix is good and costs so much, and this is known of its end
pub record IsLongerEnd {Set : Type 0} (v : View Set) (f : CostToGo Set) (e : List ℕ) (r : Reached) : Type 0 where
  pub good : Good v.system TopK e
  pub cost : r.cost ≡ cost_in_system v.system e
  pub left : IsKnown v f r.cost good.end r.left
  pub goal : Decides r.at_goal (IsTrue (v.system.goal good.end))

-- no plan goes on so, or this is known of the longer prefix, and 64 bits hold what the operator costs
abbrev pub IsEndReach : {Set : Type 0} → View Set → CostToGo Set → List ℕ → ℕ → Option Reached → Type 0
IsEndReach v f e op None = Hopeless v.system TopK (e ++ op ∷ [])
IsEndReach v f e op (Some r) = IsLongerEnd v f (e ++ op ∷ []) r × (v.system.cost op < 2 ^ 64)

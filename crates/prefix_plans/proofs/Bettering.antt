-- More is known of an entry.
use Rattle.std.proofs.Common.{◌≡◌, ℕ, ◌+◌, ◌<◌, ◌^◌, Bool, List, Some, sym, ◌∙◌, ap, subst, arith}
use Rattle.std.specs.Bool.{Decides}
use Rattle.task_system.specs.System.{State, RunsInSystem, IsSystemPlan, cost_in_system}
use Rattle.space_api.specs.View.{View}
use Rattle.cost_to_go.specs.declared.search.CostToGo.{CostToGo}
use Rattle.prefix_tree.specs.Tree.{path_at}
use Rattle.prefix_tree.specs.declared.tree.Node.{Node}
use Rattle.prefix_tree.specs.declared.entry.Entry.{Entry}
use Rattle.prefix_plans.specs.Left.{IsKnown}
use Rattle.prefix_plans.specs.EndChildren.{IsEndEntry}
use Rattle.prefix_plans.specs.EndStanding.{IsBetterEnd}
use Rattle.prefix_plans.specs.declared.left.Left.{Left}
use Rattle.prefix_plans.proofs.EndsGrowing.{entry_new}

-- The entry k is e with what is known of where it ends, in range.
pub record IsLearned (e k : Entry) (left : Left) : Type 0 where
  pub node : k.node ≡ e.node
  pub cost : k.cost ≡ e.cost
  pub goal : k.at_goal ≡ e.at_goal
  pub bound : k.bound.0 ≡ k.cost + left.cost
  pub ring : k.ring.0 ≡ left.ring
  pub settled : k.settled ≡ left.ranked
  pub small : k.ring.0 < 2 ^ 64
  pub range : k.bound.0 < 2 ^ 128

pub better : {Set : Type 0} (v : View Set) (f : CostToGo Set) (nodes : List Node) (e k : Entry) → IsEndEntry v f nodes e
    → (s : State) → RunsInSystem v.system v.system.initial (path_at nodes e.node) s → (left : Left)
    → IsKnown v f e.cost s left → IsLearned e k left → IsBetterEnd v f nodes e (Some k)
better v f nodes e k z s run left known h =
    let node = h.node in
    let cost = h.cost in
    let path : path_at nodes e.node ≡ path_at nodes k.node = ap (path_at nodes) (sym node) in (
      node,
      entry_new v f nodes k s (subst (λ (p : List ℕ). RunsInSystem v.system v.system.initial p s) path run) left
          (subst (λ (g : ℕ). IsKnown v f g s left) (sym cost) known)
          (cost ∙ (z.cost ∙ ap (cost_in_system v.system) path)) h.bound h.ring h.settled
          (omega (arith, node, z.inside))
          (omega (arith, cost, node, z.roomy))
          h.small h.range
          (subst (λ (p : List ℕ). Decides k.at_goal (IsSystemPlan v.system p)) path
          (subst (λ (b : Bool). Decides b (IsSystemPlan v.system (path_at nodes e.node))) (sym h.goal) z.plan)),
    )

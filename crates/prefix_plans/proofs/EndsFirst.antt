-- A queue of prefixes before the first turn.
use Rattle.std.proofs.Common.{◌≡◌, ℕ, Bool, true, false, List, sym, subst, arith}
use Rattle.std.specs.List.{AllByRecursion}
use Rattle.task_system.specs.System.{cost_in_system}
use Rattle.symk_task.specs.declared.parts.Mode.TheVariants.{TopK}
use Rattle.space_api.specs.View.{View}
use Rattle.cost_to_go.specs.declared.search.CostToGo.{CostToGo}
use Rattle.prefix_tree.specs.declared.state_graph.StateGraph.{StateGraph}
use Rattle.prefix_tree.specs.declared.tree.Node.{Node}
use Rattle.prefix_tree.specs.declared.entry.Entry.{Entry}
use Rattle.prefix_tree.specs.EmptyPrefix.{EmptyWaits}
use Rattle.prefix_tree.proofs.EmptyPrefix.{inside_first, path_first, plan_first, tree_first}
use Rattle.prefix_plans.specs.EndChildren.{IsEndEntry}
use Rattle.prefix_plans.specs.EndStanding.{IsCostToGoAlone, IsEndReady}

clash : {t : Bool} → t ≡ true → t ≡ false → ⊥
clash p q = cc

module _ {Set : Type 0} (v : View Set) (b : CostToGo Set) (m : StateGraph) (nodes : List Node) (es : List Entry)
    (z : EmptyWaits v.system m nodes es) where
  entry : IsEndEntry v b nodes z.entry
  entry = record {
    inside = inside_first v.system m nodes es z;
    cost = subst (λ (p : List ℕ). z.entry.cost ≡ cost_in_system v.system p) (sym (path_first v.system m nodes es z)) z.cost;
    roomy = omega (arith, z.cost);
    least = omega (arith, z.cost);
    span = omega (arith, z.bound);
    ring = omega (arith, z.ring);
    seen = omega (arith, z.ring);
    range = omega (arith, z.bound);
    bounds = λ p plan on. omega (arith, z.bound);
    plan = plan_first v.system m nodes es z;
    ranked = λ on. absurd (clash on z.unsettled);
    looked = λ c i lt r. absurd (omega (arith, lt, z.ring));
  }

  pub ready_empty : IsCostToGoAlone v b → IsEndReady v b m nodes es
  ready_empty alone = record {
    alone = alone;
    graph = z.graph;
    tree = tree_first v.system m nodes es z TopK;
    each = subst (AllByRecursion (IsEndEntry v b nodes)) (sym z.queue) (entry, tt);
  }

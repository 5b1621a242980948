-- Before the first turn: the empty prefix alone waits.
use Rattle.std.proofs.Common.{◌≡◌, ℕ, ◌<◌, List, [], ◌∷◌, length, sym, ◌∙◌, ap, subst, arith}
use Rattle.std.specs.Bool.{Decides}
use Rattle.symk_task.specs.declared.parts.Mode.{Mode}
use Rattle.task_system.specs.System.{System, IsSystemPlan}
use Rattle.prefix_tree.specs.StateGraph.{states_of, Prolongs, IsStateGraph}
use Rattle.prefix_tree.specs.declared.state_graph.StateGraph.{StateGraph}
use Rattle.prefix_tree.specs.Tree.{IsTree, path_at}
use Rattle.prefix_tree.specs.declared.tree.Node.{Node}
use Rattle.prefix_tree.specs.Entries.{prefixes}
use Rattle.prefix_tree.specs.declared.entry.Entry.{Entry}
use Rattle.prefix_tree.specs.EmptyPrefix.{EmptyWaits}
use Rattle.prefix_tree.proofs.First.{first_path, first_plan, first_tree}

-- states were found besides
pub waits_grown : (y : System) (m k : StateGraph) (nodes : List Node) (es : List Entry) → EmptyWaits y m nodes es
    → IsStateGraph y k → Prolongs (states_of m) (states_of k) → EmptyWaits y k nodes es
waits_grown y m k nodes es z graph more = record {
  node = z.node;
  entry = z.entry;
  graph = graph;
  within = omega (arith, z.within, more.longer);
  starts = more.same z.node.state z.within ∙ z.starts;
  tree = z.tree;
  queue = z.queue;
  bound = z.bound;
  cost = z.cost;
  ring = z.ring;
  place = z.place;
  unsettled = z.unsettled;
  goal = z.goal;
}

module _ (y : System) (m : StateGraph) (nodes : List Node) (es : List Entry) (z : EmptyWaits y m nodes es) where
  pub inside_first : z.entry.node < length nodes
  inside_first = subst (λ (l : List Node). z.entry.node < length l) (sym z.tree) (omega (arith, z.place))

  pub path_first : path_at nodes z.entry.node ≡ []
  path_first = subst (λ (l : List Node). path_at l z.entry.node ≡ []) (sym z.tree) (first_path z.node z.entry.node z.place)

  pub plan_first : Decides z.entry.at_goal (IsSystemPlan y (path_at nodes z.entry.node))
  plan_first = subst (λ (l : List Node). Decides z.entry.at_goal (IsSystemPlan y (path_at l z.entry.node))) (sym z.tree)
      (first_plan y z.node z.entry.node z.entry.at_goal z.place z.goal)

  pub prefixes_first : prefixes nodes es ≡ [] ∷ []
  prefixes_first = ap (prefixes nodes) z.queue ∙ ap (λ (p : List ℕ). p ∷ []) path_first

  pub tree_first : (mode : Mode) → IsTree y mode (states_of m) nodes
  tree_first mode = subst (IsTree y mode (states_of m)) (sym z.tree) (first_tree y mode m z.node z.graph z.within z.starts)

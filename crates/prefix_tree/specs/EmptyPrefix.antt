-- The empty prefix, which alone waits before the first turn.
use Rattle.std.specs.Prelude.{◌≡◌, ◌<◌, false, IsTrue, List, [], ◌∷◌, length}
use Rattle.std.specs.Bool.{Decides}
use Rattle.task_system.specs.System.{System}
use Rattle.prefix_tree.specs.StateGraph.{states_of, numbered_state, IsStateGraph}
use Rattle.prefix_tree.specs.declared.state_graph.StateGraph.{StateGraph}
use Rattle.prefix_tree.specs.declared.tree.Node.{Node}
use Rattle.prefix_tree.specs.declared.entry.Entry.{Entry}

-- the empty prefix is the only one, and waits: it ends in the initial state, and its entry says no more than whether it is a plan
pub record EmptyWaits (y : System) (m : StateGraph) (nodes : List Node) (es : List Entry) : Type 0 where
  pub node : Node
  pub entry : Entry
  pub graph : IsStateGraph y m
  pub within : node.state < length (states_of m)
  pub starts : numbered_state (states_of m) node.state ≡ y.initial
  pub tree : nodes ≡ node ∷ []
  pub queue : es ≡ entry ∷ []
  pub bound : entry.bound.0 ≡ 0
  pub cost : entry.cost ≡ 0
  pub ring : entry.ring.0 ≡ 0
  pub place : entry.node ≡ 0
  pub unsettled : entry.settled ≡ false
  pub goal : Decides entry.at_goal (IsTrue (y.goal y.initial))

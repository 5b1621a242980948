use Rattle.std.proofs.Common.{◌<◌, ◌↔◌, List, length}
use Rattle.symk_task.specs.declared.parts.Mode.{Mode}
use Rattle.task_system.specs.System.{State, System, Listed, trace}
use Rattle.prefix_tree.specs.StateGraph.{AreDistinctStates, numbered_state}
use Rattle.prefix_tree.specs.Tree.{IsTree, path_at}
use Rattle.prefix_tree.proofs.tree.passes.Given as goal

abbrev pub invariant-up : goal.invariant-up
invariant-up l = record {
  within : l.at < length l.tree;
  same : (y : System) (m : Mode) (ss : List State) → IsTree y m ss l.tree → AreDistinctStates ss → l.state < length ss
      → Listed (trace y y.initial (path_at l.tree l.node)) (numbered_state ss l.state)
      ↔ Listed (trace y y.initial (path_at l.tree l.at)) (numbered_state ss l.state);
}

abbrev pub decreases-up : goal.decreases-up
decreases-up l = l.at

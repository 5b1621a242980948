use Rattle.std.proofs.Common.{ℕ, ◌≤◌}
use Rattle.space_api.proofs.Rising.{IsPast}
use Rattle.symk_task.specs.declared.parts.Mode.TheVariants.{TopK}
use Rattle.prefix_tree.specs.StateGraph.{states_of, move_operators}
use Rattle.prefix_tree.specs.Tree.{GrowsTree, path_at}
use Rattle.prefix_plans.specs.Children.{is_taken, AreChildrenBy}
use Rattle.prefix_plans.proofs.ranks.Ranks.add_by_moves.Given as goal

abbrev pub invariant-moves : goal.invariant-moves
invariant-moves g l =
    let v = g.S.Space.view l.heuristic.space.now in
    record {
      grows : GrowsTree v.system TopK (states_of l.heuristic.graph.now) l.fn.tree.items l.tree.items;
      children : (m : ℕ) × IsPast (move_operators l.moves) l.step-index m × (m ≤ v.system.operators)
          × AreChildrenBy v l.heuristic.search.now l.tree.items (path_at l.fn.tree.items l.entry.node) (is_taken l.taken) m l.children.items;
    }

use Rattle.prefix_tree.specs.StateGraph.{states_of}
use Rattle.prefix_tree.specs.Tree.{GrowsTree, path_at}
use Rattle.symk_task.specs.declared.parts.Mode.TheVariants.{Loopless}
use Rattle.loopless.specs.Told.{Informs}
use Rattle.loopless.proofs.Skipping.{HasAdded}
use Rattle.loopless.proofs.expand.add_all.Given as goal

abbrev pub invariant-moves : goal.invariant-moves
invariant-moves g l =
    let y = (g.S.Space.view l.heuristic.space.now).system in
    let a = l.fn.tree.items in
    record {
      informed : Informs g.S.Space.view l.heuristic l.rests;
      grows : GrowsTree y Loopless (states_of l.heuristic.graph.now) a l.tree.items;
      children : HasAdded y (path_at a l.entry.node) l.moves l.tree.items l.step-index l.children.items;
    }

use Rattle.std.proofs.Common.{List, get_or, sym, ap, subst}
use Rattle.symk_task.specs.declared.parts.Mode.TheVariants.{Loopless}
use Rattle.task_system.specs.System.{State}
use Rattle.prefix_tree.specs.StateGraph.{states_of, numbered_state, IsGraphMove}
use Rattle.prefix_tree.specs.Tree.{path_at}
use Rattle.prefix_tree.specs.declared.state_graph.Move.{Move}
use Rattle.prefix_tree.specs.declared.entry.Entry.{Entry}
use Rattle.prefix_tree.proofs.Paths.{grows_refl, grows_trans}
use Rattle.loopless.proofs.Skipping.{AllFrom, HasAdded, added_none, added_next, added_all}
use Rattle.loopless.proofs.expand.add_all.Goals as goal

pub moves-init : goal.moves-init
moves-init g c =
    let y = (g.S.Space.view c.args.heuristic.now.space.now).system in
    let ss = states_of c.args.heuristic.now.graph.now in
    let a = c.args.tree.now.items in
    let all : AllFrom y ss a c.args.entry.node c.args.moves.now =
    record { tree = c.requires.tree; inside = c.requires.entry.inside; all = c.requires.moves } in
    record {
      informed = c.requires.informed;
      grows = grows_refl y Loopless ss a c.requires.tree;
      children = subst (λ (kids : List Entry). HasAdded y (path_at a c.args.entry.node) c.args.moves.now a 0 kids)
          (sym c.requires.none) (added_none all);
    }

pub add_child-requires-clause-step : goal.add_child-requires-clause-step
add_child-requires-clause-step g c =
    let y = (g.S.Space.view c.args.heuristic.now.space.now).system in
    let ss = states_of c.args.heuristic.now.graph.now in
    let d : Move = record { op = 0; to = 0 } in
    let end = ap (numbered_state ss) (c.moves.invariant.grows.ends c.args.entry.node c.requires.entry.inside) in
    subst (λ (s : State). IsGraphMove y ss s (get_or c.args.moves.now c.moves.step-index d)) (sym end)
    (c.requires.moves.each c.moves.step-index d c.moves-test.true)

pub moves-preserved : goal.moves-preserved
moves-preserved g c =
    let y = (g.S.Space.view c.args.heuristic.now.space.now).system in
    let ss = states_of c.args.heuristic.now.graph.now in
    let d : Move = record { op = 0; to = 0 } in
    let i = c.moves.invariant in
    let all : AllFrom y ss c.args.tree.now.items c.args.entry.node c.args.moves.now =
    record { tree = c.requires.tree; inside = c.requires.entry.inside; all = c.requires.moves } in
    record {
      informed = c.add_child.ensures.informed;
      grows = grows_trans y Loopless ss c.args.tree.now.items c.moves.tree.items c.add_child.new.tree.items i.grows c.add_child.ensures.grows;
      children = added_next all c.moves.children.items c.add_child.new.children.items c.moves.step-index d c.moves-test.true
          i.grows c.add_child.ensures.grows i.children c.in_ok-add_child.ensures.added;
    }

pub returns-clause-children : goal.returns-clause-children
returns-clause-children g c =
    let y = (g.S.Space.view c.args.heuristic.now.space.now).system in
    let ss = states_of c.args.heuristic.now.graph.now in
    let all : AllFrom y ss c.args.tree.now.items c.args.entry.node c.args.moves.now =
    record { tree = c.requires.tree; inside = c.requires.entry.inside; all = c.requires.moves } in
    added_all all c.moves.tree.items c.moves.children.items c.moves.step-index c.moves-test.false c.moves.invariant.children

use Rattle.std.proofs.Common.{◌≡◌, ℕ, List, slice_index_or, refl, subst}
use Rattle.prefix_tree.specs.StateGraph.{states_of, numbered_state, AreGraphMoves}
use Rattle.prefix_tree.specs.declared.tree.Node.{Node}
use Rattle.prefix_tree.proofs.Paths.{grows_refl, tree_prolonged}
use Rattle.prefix_tree.proofs.Passing.{number_is}
use Rattle.symk_task.specs.declared.parts.Mode.TheVariants.{Loopless}
use Rattle.prefix_tree.proofs.Going.{end_within}
use Rattle.loopless.proofs.Resting.{kept_prolonged}
use Rattle.loopless.proofs.expand.expand.Goals as goal

pub find_moves-requires-clause-number : goal.find_moves-requires-clause-number
find_moves-requires-clause-number g c =
    let y = (g.S.Space.view c.args.space.now).system in
    let f = c.args.front.now in
    let n = c.node_at-here.result in
    let is = subst (λ (ns : List Node). n ≡ slice_index_or ns c.args.entry.node n) c.deref.ensures.value (c.node_at-here.ensures n) in
    end_within y Loopless (states_of f.graph) f.tree.items c.args.entry.node c.requires.ready.tree c.requires.entry.inside n is

pub returns-in_err-find_moves-clause-grown : goal.returns-in_err-find_moves-clause-grown
returns-in_err-find_moves-clause-grown g c =
    let y = (g.S.Space.view c.args.space.now).system in
    let f = c.args.front.now in
    let ss = states_of f.graph in
    let now = states_of c.find_moves.new.graph in
    let more = c.find_moves.ensures.prolongs in
    record {
      graph = c.find_moves.ensures.graph;
      kept = kept_prolonged y ss now f.rests more c.requires.ready.kept;
      tree = grows_refl y Loopless now f.tree.items (tree_prolonged y Loopless ss now f.tree.items more c.requires.ready.tree);
      queue = refl;
    }

pub add_all-requires-clause-informed : goal.add_all-requires-clause-informed
add_all-requires-clause-informed g c =
    let f = c.args.front.now in
    let ready = c.requires.ready in
    record {
      backward = ready.alone.backward;
      wide = ready.alone.wide;
      graph = c.find_moves.ensures.graph;
      kept = kept_prolonged (g.S.Space.view c.args.space.now).system (states_of f.graph) (states_of c.find_moves.new.graph) f.rests
          c.find_moves.ensures.prolongs ready.kept;
    }

pub add_all-requires-clause-tree : goal.add_all-requires-clause-tree
add_all-requires-clause-tree g c =
    let f = c.args.front.now in
    tree_prolonged (g.S.Space.view c.args.space.now).system Loopless (states_of f.graph) (states_of c.find_moves.new.graph) f.tree.items
    c.find_moves.ensures.prolongs c.requires.ready.tree

pub add_all-requires-clause-moves : goal.add_all-requires-clause-moves
add_all-requires-clause-moves g c =
    let y = (g.S.Space.view c.args.space.now).system in
    let n = c.node_at-here.result in
    let is = subst (λ (ns : List Node). n ≡ slice_index_or ns c.args.entry.node n) c.deref.ensures.value (c.node_at-here.ensures n) in
    let ss = states_of c.find_moves.new.graph in
    let all = c.find_moves.ensures.graph.moves n.state c.in-Some.moves.now c.in-Some.ensures.found in
    subst (λ (k : ℕ). AreGraphMoves y ss (numbered_state ss k) c.in-Some.moves.now)
    (number_is c.args.front.now.tree.items c.args.entry.node n c.requires.entry.inside is) all.1

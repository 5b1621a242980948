use Rattle.std.proofs.Common.{ℕ, IsSome, subst}
use Rattle.symk_task.specs.declared.parts.Mode.TheVariants.{TopK}
use Rattle.prefix_tree.specs.StateGraph.{states_of, moves_at}
use Rattle.prefix_tree.proofs.Paths.{tree_prolonged}
use Rattle.prefix_tree.proofs.Passing.{number_is}
use Rattle.prefix_tree.proofs.Going.{end_within}
use Rattle.prefix_plans.proofs.expand.find_moves_at.Goals as goal

pub find_moves-requires-clause-number : goal.find_moves-requires-clause-number
find_moves-requires-clause-number g c =
    let n = c.node_at-here.result in
    end_within (g.S.Space.view c.args.space.now).system TopK (states_of c.args.graph.now) c.args.tree.now c.args.entry.node
    c.requires.tree c.requires.inside n (c.node_at-here.ensures n)

pub returns-in_err-find_moves-clause-tree : goal.returns-in_err-find_moves-clause-tree
returns-in_err-find_moves-clause-tree g c = tree_prolonged (g.S.Space.view c.args.space.now).system TopK
    (states_of c.args.graph.now) (states_of c.find_moves.new.graph) c.args.tree.now c.find_moves.ensures.prolongs c.requires.tree

pub returns-clause-tree : goal.returns-clause-tree
returns-clause-tree g c = tree_prolonged (g.S.Space.view c.args.space.now).system TopK
    (states_of c.args.graph.now) (states_of c.find_moves.new.graph) c.args.tree.now c.find_moves.ensures.prolongs c.requires.tree

pub returns-clause-number : goal.returns-clause-number
returns-clause-number g c =
    let n = c.node_at-here.result in
    number_is c.args.tree.now c.args.entry.node n c.requires.inside (c.node_at-here.ensures n)

pub returns-clause-found : goal.returns-clause-found
returns-clause-found g c =
    let n = c.node_at-here.result in
    subst (λ (k : ℕ). IsSome (moves_at c.find_moves.new.graph k))
    (number_is c.args.tree.now c.args.entry.node n c.requires.inside (c.node_at-here.ensures n)) c.in_ok-find_moves.ensures.found

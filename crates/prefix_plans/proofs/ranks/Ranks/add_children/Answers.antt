use Rattle.std.proofs.Common.{◌≡◌, ℕ, true, false, IsSome, List, slice_index_or, sym, subst}
use Rattle.prefix_tree.specs.StateGraph.{states_of, moves_at, numbered_state, AreGraphMoves}
use Rattle.prefix_tree.specs.declared.tree.Node.{Node}
use Rattle.prefix_tree.proofs.Passing.{number_is}
use Rattle.prefix_plans.proofs.ranks.Ranks.add_children.Goals as goal

pub add_by_moves-requires-clause-moves : goal.add_by_moves-requires-clause-moves
add_by_moves-requires-clause-moves g c =
    let h = c.args.heuristic.now in
    let z = c.requires.stands in
    let n = c.node_at-here.result in
    let is = subst (λ (ns : List Node). n ≡ slice_index_or ns c.args.entry.node n) c.deref.ensures.value (c.node_at-here.ensures n) in
    let ss = states_of h.graph.now in
    let all = z.graph.moves n.state c.in-Some.moves.now c.in-Some.ensures.found in
    subst (λ (k : ℕ). AreGraphMoves (g.S.Space.view h.space.now).system ss (numbered_state ss k) c.in-Some.moves.now)
    (number_is c.args.tree.now.items c.args.entry.node n z.entry.inside is) all.1

never : false ≡ true → ⊥
never e = cc

pub unreachable-requires : goal.unreachable-requires
unreachable-requires g c =
    let n = c.node_at-here.result in
    let is = subst (λ (ns : List Node). n ≡ slice_index_or ns c.args.entry.node n) c.deref.ensures.value (c.node_at-here.ensures n) in
    let number = number_is c.args.tree.now.items c.args.entry.node n c.requires.stands.entry.inside is in
    never (c.in-None.ensures.known (subst (λ (k : ℕ). IsSome (moves_at c.args.heuristic.now.graph.now k)) (sym number) c.requires.found))

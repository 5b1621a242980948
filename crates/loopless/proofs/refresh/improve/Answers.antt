use Rattle.prefix_tree.specs.StateGraph.{states_of}
use Rattle.symk_task.specs.declared.parts.Mode.TheVariants.{Loopless}
use Rattle.prefix_tree.proofs.Going.{end_within}
use Rattle.loopless.proofs.Moving.{ends_least, better, lost}
use Rattle.loopless.proofs.refresh.improve.Goals as goal

pub left_from-requires-clause-number : goal.left_from-requires-clause-number
left_from-requires-clause-number g c =
    let h = c.args.heuristic.now in
    let n = c.node_at-here.result in
    end_within (g.S.Space.view h.space.now).system Loopless (states_of h.graph.now) c.args.tree.now c.args.entry.node c.requires.tree
    c.requires.entry.inside n (c.node_at-here.ensures n)

pub left_from-requires-clause-low : goal.left_from-requires-clause-low
left_from-requires-clause-low g c =
    let h = c.args.heuristic.now in
    let n = c.node_at-here.result in
    ends_least (g.S.Space.view h.space.now).system (states_of h.graph.now) c.args.tree.now c.args.entry c.requires.tree c.requires.entry n
    (c.node_at-here.ensures n) c.left_after-low.result c.left_after-low.ensures

pub returns-in-None-clause-better : goal.returns-in-None-clause-better
returns-in-None-clause-better g c =
    let h = c.args.heuristic.now in
    let n = c.node_at-here.result in
    lost (g.S.Space.view h.space.now).system (states_of h.graph.now) c.args.tree.now c.args.entry c.requires.tree c.requires.entry n
    (c.node_at-here.ensures n) (rw c.in-None.is at c.left_from.ensures.left)

pub returns-in-Some-clause-better : goal.returns-in-Some-clause-better
returns-in-Some-clause-better g c =
    let h = c.args.heuristic.now in
    let n = c.node_at-here.result in
    let left = rw c.in-Some.is at c.left_from.ensures.left in
    let e = c.improved.ensures in
    let entry = better (g.S.Space.view h.space.now).system (states_of h.graph.now) c.args.tree.now c.args.entry c.requires.tree
    c.requires.entry n (c.node_at-here.ensures n) c.improved.result c.in-Some.left left e.node e.cost e.at_goal e.bound in
    (e.node, entry, e.stale)

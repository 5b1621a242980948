use Rattle.std.proofs.Common.{◌≡◌, ◌+◌, sym, arith}
use Rattle.symk_task.specs.declared.parts.Mode.TheVariants.{TopK}
use Rattle.prefix_tree.specs.StateGraph.{states_of}
use Rattle.prefix_tree.specs.Tree.{path_at}
use Rattle.prefix_tree.proofs.Going.{end_within, end_run}
use Rattle.lazy_plans.proofs.Traces.{stuck}
use Rattle.prefix_plans.proofs.EndsGrowing.{ends_after}
use Rattle.prefix_plans.proofs.Bettering.{better}
use Rattle.prefix_plans.proofs.improving.improve.Goals as goal

pub state-state-requires : goal.state-state-requires
state-state-requires g c = end_within (g.S.Space.view c.args.heuristic.now.space.now).system TopK (states_of c.args.heuristic.now.graph.now)
    c.args.tree.now c.args.entry.node c.requires.tree c.requires.entry.inside c.node_at-here.result
    (c.node_at-here.ensures c.node_at-here.result)

pub left_from-requires-clause-reached : goal.left_from-requires-clause-reached
left_from-requires-clause-reached g c =
    let run = end_run (g.S.Space.view c.args.heuristic.now.space.now).system TopK (states_of c.args.heuristic.now.graph.now) c.args.tree.now
    c.args.entry.node c.requires.tree c.requires.entry.inside c.node_at-here.result
    (c.node_at-here.ensures c.node_at-here.result) c.state-state.result.now c.state-state.ensures in
    (path_at c.args.tree.now c.args.entry.node, run, sym c.requires.entry.cost)

pub left_from-requires-clause-first : goal.left_from-requires-clause-first
left_from-requires-clause-first g c k i lt ranked =
    let run = end_run (g.S.Space.view c.args.heuristic.now.space.now).system TopK (states_of c.args.heuristic.now.graph.now) c.args.tree.now
    c.args.entry.node c.requires.tree c.requires.entry.inside c.node_at-here.result
    (c.node_at-here.ensures c.node_at-here.result) c.state-state.result.now c.state-state.ensures in
    c.requires.entry.looked k i lt (c.state-state.result.now, run, ranked)

pub left_from-requires-clause-low : goal.left_from-requires-clause-low
left_from-requires-clause-low g c =
    let v = g.S.Space.view c.args.heuristic.now.space.now in
    let run = end_run v.system TopK (states_of c.args.heuristic.now.graph.now) c.args.tree.now c.args.entry.node c.requires.tree
    c.requires.entry.inside c.node_at-here.result (c.node_at-here.ensures c.node_at-here.result)
    c.state-state.result.now c.state-state.ensures in
    ends_after v c.args.heuristic.now.search.now c.args.tree.now c.args.entry c.requires.entry c.left_after-low.result c.left_after-low.ensures c.state-state.result.now run

pub entry_of-requires-clause-left : goal.entry_of-requires-clause-left
entry_of-requires-clause-left g c = (rw c.in-Some.is at c.left_from.ensures).small

pub returns-in-None : goal.returns-in-None
returns-in-None g c =
    let v = g.S.Space.view c.args.heuristic.now.space.now in
    let run = end_run v.system TopK (states_of c.args.heuristic.now.graph.now) c.args.tree.now c.args.entry.node c.requires.tree
    c.requires.entry.inside c.node_at-here.result (c.node_at-here.ensures c.node_at-here.result)
    c.state-state.result.now c.state-state.ensures in
    stuck v.system TopK (path_at c.args.tree.now c.args.entry.node) c.state-state.result.now run (rw c.in-None.is at c.left_from.ensures)

pub returns-in-Some : goal.returns-in-Some
returns-in-Some g c =
    let v = g.S.Space.view c.args.heuristic.now.space.now in
    let run = end_run v.system TopK (states_of c.args.heuristic.now.graph.now) c.args.tree.now c.args.entry.node c.requires.tree
    c.requires.entry.inside c.node_at-here.result (c.node_at-here.ensures c.node_at-here.result)
    c.state-state.result.now c.state-state.ensures in
    let e = c.entry_of.ensures in
    let bound : c.entry_of.result.bound.0 ≡ c.entry_of.result.cost + c.in-Some.left.cost = omega (arith, c.entry_of.ensures.bound, c.entry_of.ensures.cost) in
    better v c.args.heuristic.now.search.now c.args.tree.now c.args.entry c.entry_of.result c.requires.entry
    c.state-state.result.now run c.in-Some.left (rw c.in-Some.is at c.left_from.ensures) (record {
      node = e.node;
      cost = e.cost;
      goal = e.at_goal;
      bound = bound;
      ring = e.ring;
      settled = e.settled;
      small = e.small;
      range = e.range;
    })

use Rattle.symk_task.specs.declared.parts.Mode.TheVariants.{TopK}
use Rattle.prefix_tree.specs.StateGraph.{states_of}
use Rattle.prefix_tree.specs.Tree.{path_at}
use Rattle.prefix_tree.proofs.Going.{end_within, end_run}
use Rattle.prefix_plans.proofs.Dearest.{decides_on}
use Rattle.prefix_plans.proofs.leading.goes_on.Goals as goal

pub state-requires : goal.state-requires
state-requires g c = end_within (g.S.Space.view c.args.space.now).system TopK (states_of c.args.graph.now)
    c.args.tree.now c.args.entry.node c.requires.tree c.requires.inside c.node_at-here.result
    (c.node_at-here.ensures c.node_at-here.result)

pub has_state-requires-clause-state : goal.has_state-requires-clause-state
has_state-requires-clause-state g c = (
  path_at c.args.tree.now c.args.entry.node,
  end_run
      (g.S.Space.view c.args.space.now).system TopK (states_of c.args.graph.now) c.args.tree.now c.args.entry.node
      c.requires.tree c.requires.inside c.node_at-here.result (c.node_at-here.ensures c.node_at-here.result)
      c.state.result.now c.state.ensures,
)

pub returns : goal.returns
returns g c =
    let v = g.S.Space.view c.args.space.now in
    let run = end_run v.system TopK (states_of c.args.graph.now) c.args.tree.now c.args.entry.node c.requires.tree
    c.requires.inside c.node_at-here.result (c.node_at-here.ensures c.node_at-here.result)
    c.state.result.now c.state.ensures in
    decides_on v c.args.leading (path_at c.args.tree.now c.args.entry.node) c.state.result.now c.has_state.result c.requires.tells run c.has_state.ensures

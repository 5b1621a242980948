use Rattle.symk_task.specs.declared.parts.Mode.TheVariants.{TopK}
use Rattle.prefix_tree.specs.StateGraph.{states_of}
use Rattle.prefix_tree.proofs.Paths.{grows_refl}
use Rattle.prefix_plans.proofs.expand.expand.Goals as goal

pub add_children-requires-clause-stands : goal.add_children-requires-clause-stands
add_children-requires-clause-stands g c = record {
  search = c.requires.ready.alone.search;
  graph = c.find_moves_at.ensures.graph;
  tree = rw c.deref.ensures.value at c.find_moves_at.ensures.tree;
  entry = c.requires.entry;
}

pub returns-in_err-find_moves_at-clause-grows : goal.returns-in_err-find_moves_at-clause-grows
returns-in_err-find_moves_at-clause-grows g c = grows_refl (g.S.Space.view c.args.space.now).system TopK
    (states_of c.find_moves_at.new.graph) c.args.front.now.tree.items (rw c.deref.ensures.value at c.find_moves_at.ensures.tree)

use Rattle.std.proofs.Common.{◌<◌, arith}
use Rattle.prefix_tree.specs.Tree.{path_at}
use Rattle.prefix_tree.proofs.Operators.{back_less, back_path, back_first, back_more, back_done}
use Rattle.prefix_tree.proofs.tree.operators_back.Goals as goal

pub up-smaller : goal.up-smaller
up-smaller c = back_less c.args.tree.now c.requires.linked c.up.at c.node_at-here.result c.up.invariant.within
    (c.node_at-here.ensures c.node_at-here.result) c.up-test.true

pub up-preserved : goal.up-preserved
up-preserved c =
    let less : c.node_at-here.result.parent < c.up.at = back_less c.args.tree.now c.requires.linked c.up.at
    c.node_at-here.result c.up.invariant.within (c.node_at-here.ensures c.node_at-here.result) c.up-test.true in
    let longer = back_path c.args.tree.now c.requires.linked c.up.at c.node_at-here.result c.up.invariant.within
    (c.node_at-here.ensures c.node_at-here.result) c.up-test.true in
    record {
      within = omega (arith, less, c.up.invariant.within);
      sofar = back_more (path_at c.args.tree.now c.args.node) (path_at c.args.tree.now c.up.at)
          (path_at c.args.tree.now c.node_at-here.result.parent) c.up.operators.items c.push.new.self.items
          c.node_at-here.result.op c.up.invariant.sofar longer c.in_ok-push.ensures.items;
    }

pub returns : goal.returns
returns c = back_done (path_at c.args.tree.now c.args.node) (path_at c.args.tree.now c.up.at) c.up.operators.items
    c.up.invariant.sofar (back_first c.args.tree.now c.requires.linked c.up.at
    c.up.invariant.within c.up-test.false)

use Rattle.std.proofs.Common.{refl}
use Rattle.prefix_tree.specs.Tree.{path_at}
use Rattle.prefix_tree.proofs.Operators.{back_less, back_path, back_more}
use Rattle.member_plans.proofs.joining.step_back.Goals as goal

pub returns-clause-nearer : goal.returns-clause-nearer
returns-clause-nearer c = back_less c.args.tree.now c.requires.linked c.args.at c.node_at-here.result
    c.requires.within (c.node_at-here.ensures c.node_at-here.result) c.requires.some

pub returns-clause-back : goal.returns-clause-back
returns-clause-back c =
    let nodes = c.args.tree.now in
    let longer = back_path nodes c.requires.linked c.args.at c.node_at-here.result c.requires.within
    (c.node_at-here.ensures c.node_at-here.result) c.requires.some in
    back_more _ (path_at nodes c.args.at) (path_at nodes c.node_at-here.result.parent) c.args.operators.now.items
    c.push.new.self.items c.node_at-here.result.op refl longer c.in_ok-push.ensures.items

use Rattle.std.proofs.Common.{◌≡◌, sym, ◌∙◌}
use Rattle.prefix_tree.specs.Tree.{state_number_at}
use Rattle.prefix_tree.proofs.Passing.{number_is}
use Rattle.member_plans.proofs.Forking.{fork_joins}
use Rattle.member_plans.proofs.joining.do_join.Goals as goal

pub returns : goal.returns
returns c y ss z on =
    let nodes = c.args.tree.now in
    let one = number_is nodes c.args.node c.node_at.result c.requires.node (c.node_at.ensures c.node_at.result) in
    let two = number_is nodes c.args.other c.node_at-2.result c.requires.other (c.node_at-2.ensures c.node_at-2.result) in
    let end : state_number_at nodes c.args.node ≡ state_number_at nodes c.args.other = sym one ∙ (c.if-node_at.false ∙ two) in
    fork_joins y ss nodes z c.requires.node c.requires.other end c.in_ok-one.ensures (c.are_rearranged.ensures on)

use Rattle.std.proofs.Common.{◌≡◌, ◌∙◌, List, ap, arith}
use Rattle.bdd_table.specs.declared.node.Node.{Node}
use Rattle.bdd_table.specs.Diagram.{at}
use Rattle.bdd_ops.proofs.Children.{level_small, node_level}
use Rattle.bdd_ops.proofs.Renaming.{renamed_small}
use Rattle.bdd_ops.proofs.ops.Ops.renamed_if_wanted.Goals as goal

pub choice-requires-clause-level : goal.choice-requires-clause-level
choice-requires-clause-level c =
    let xs = c.args.self.now in
    let n = c.get-node.result in
    let is : n ≡ at xs c.args.id = c.get-node.ensures.is ∙ ap (λ (l : List Node). at l c.args.id) c.table.ensures.same in
    let level = node_level xs c.args.id n c.know_reduced.ensures is c.requires.inner c.requires.known in
    let small = level_small xs c.args.id n c.know_reduced.ensures is c.requires.inner c.requires.known in
    rw c.target-level.ensures (renamed_small c.args.pairs.now c.requires.levels n.level (omega (arith, level, small)))

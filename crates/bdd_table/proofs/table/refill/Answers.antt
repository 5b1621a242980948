use Rattle.std.proofs.Common.{◌≡◌, IfOk, arith, subst, ap, ◌∙◌, slice_index_or}
use Rattle.std.proofs.lemmas.List.{get_or_default}
use Rattle.indexmap.specs.IndexSet.{insert_key}
use Rattle.bdd_table.specs.declared.node.Node.{Node}
use Rattle.bdd_table.specs.Diagram.{bottom, node_of}
use Rattle.bdd_table.specs.NodeHash.{node_eq}
use Rattle.bdd_table.proofs.Adding.{refilled}
use Rattle.bdd_table.proofs.table.refill.Goals as goal

pub loop-i-preserved : goal.loop-i-preserved
loop-i-preserved c =
    let node : Node = slice_index_or c.args.kept.now c.loop-i.i (node_of 0 0 0) in
    let inserted : c.insert_full.new.self.keys ≡ insert_key node_eq c.loop-i.nodes.keys node = subst (λ r. IfOk r
    (λ _. c.insert_full.new.self.keys ≡ insert_key node_eq c.loop-i.nodes.keys node)) c.unwrap.ensures c.insert_full.ensures.keys in (
      refilled c.args.kept.now c.loop-i.nodes.keys _ c.loop-i.i c.requires.each_once (omega arith) c.loop-i.invariant.0
          (inserted ∙ ap (insert_key node_eq c.loop-i.nodes.keys) (get_or_default c.args.kept.now c.loop-i.i (node_of 0 0 0) (node_of bottom 0 0) (omega arith))),
      omega (arith, c.loop-i.invariant.1, c.insert_full.ensures.spare),
    )

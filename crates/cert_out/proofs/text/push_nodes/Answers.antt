use Rattle.std.proofs.Common.{◌++◌, ◌∷◌, [], get_or, sym, ap, ◌∙◌, append_assoc}
use Rattle.std.proofs.lemmas.List.{get_or_default}
use Rattle.certificates.specs.declared.node.CertNode.{CertNode}
use Rattle.sas_writer.proofs.Growth.{line_more}
use Rattle.cert_out.specs.CertText.{node_line}
use Rattle.cert_out.proofs.text.push_nodes.Goals as goal

pub loop-node-preserved : goal.loop-node-preserved
loop-node-preserved c =
    let nodes = c.args.nodes.now in
    let i = c.loop-node.node-index in
    let none : CertNode = record { bit = 0; lo = 0; hi = 0 } in
    let node = get_or nodes i none in
    c.in_ok-push_end.ensures ∙ ap (λ t. t ++ 10 ∷ []) c.in_ok-push_node.ensures ∙ append_assoc c.loop-node.text (node_line node) (10 ∷ [])
    ∙ ap (λ t. t ++ (node_line node ++ 10 ∷ [])) c.loop-node.invariant
    ∙ sym (line_more node_line c.args.text.now nodes i node c.loop-node-test.true (get_or_default nodes i none node c.loop-node-test.true))

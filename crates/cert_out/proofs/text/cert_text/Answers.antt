use Rattle.std.proofs.Common.{◌++◌, ℕ, List, length, map, ap, ◌∙◌}
use Rattle.certificates.specs.declared.node.CertNode.{CertNode}
use Rattle.sas_writer.specs.Spelling.{text_of}
use Rattle.sas_writer.proofs.Growth.{then}
use Rattle.cert_out.specs.CertText.{node_line, cert_head_lines, end_lines, cert_lines}
use Rattle.cert_out.proofs.text.cert_text.Goals as goal

pub returns : goal.returns
unfolding cert_lines
returns c =
    let t = c.new-text.result in
    let nodes = c.as_slice-nodes.result.now in
    let width = c.args.width in
    let root = c.args.cert.now.root in
    let head = cert_head_lines width (length nodes) in
    let to_nodes = then t head (map node_line nodes) c.in_ok-push_head.ensures c.in_ok-push_nodes.ensures in
    let whole = then t (head ++ map node_line nodes) (end_lines root) to_nodes c.in_ok-push_root.ensures in
    c.into_vec.ensures ∙ whole ∙ ap (λ (start : List ℕ). start ++ text_of (head ++ map node_line nodes ++ end_lines root)) c.new-text.ensures
    ∙ ap (λ (ns : List CertNode). text_of (cert_head_lines width (length ns) ++ map node_line ns ++ end_lines root)) c.as_slice-nodes.ensures

use Rattle.std.proofs.Common.{◌≡◌, ◌++◌, take, map}
use Rattle.sas_writer.specs.Spelling.{text_of}
use Rattle.cert_out.specs.CertText.{node_line}
use Rattle.cert_out.proofs.text.push_nodes.Given as goal

abbrev pub invariant-loop-node : goal.invariant-loop-node
invariant-loop-node l = l.text ≡ l.fn.text ++ text_of (map node_line (take l.node-index l.nodes))

-- The canonical text of a certificate.
use Rattle.std.specs.Prelude.{ℕ, List, [], ◌∷◌, ◌++◌, length, map, codes, decimal}
use Rattle.sas_writer.specs.Spelling.{text_of}
use Rattle.certificates.specs.declared.node.CertNode.{CertNode}
use Rattle.certificates.specs.declared.node.Certificate.{Certificate}

-- a line of these bytes and a number
abbrev pub numbered_line : List ℕ → ℕ → List ℕ
numbered_line word n = word ++ decimal n

-- the line of a node
unfoldable pub node_line : CertNode → List ℕ
node_line x = decimal x.bit ++ codes " " ++ decimal x.lo ++ codes " " ++ decimal x.hi

-- the lines before the nodes, of which there are so many
abbrev pub cert_head_lines : ℕ → ℕ → List (List ℕ)
cert_head_lines width count = codes "symk-cert 1" ∷ numbered_line (codes "bits ") width ∷ numbered_line (codes "nodes ") count ∷ []

-- the lines after the nodes
abbrev pub end_lines : ℕ → List (List ℕ)
end_lines root = numbered_line (codes "root ") root ∷ codes "end" ∷ []

-- The lines of a certificate of a task whose states have so many bits, each number in decimal digits without leading zeros.
unfoldable pub cert_lines : ℕ → Certificate → List (List ℕ)
cert_lines width cert = cert_head_lines width (length cert.nodes) ++ map node_line cert.nodes ++ end_lines cert.root

-- their text
abbrev pub cert_text : ℕ → Certificate → List ℕ
cert_text width cert = text_of (cert_lines width cert)

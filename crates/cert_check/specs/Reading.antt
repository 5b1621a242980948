-- Reading a certificate from the first line on, up to the first line that is not as it should be.
use Rattle.std.specs.Prelude.{ℕ, ◌+◌, ◌==◌, ◌&&◌, ◌||◌, nat_lt, if◌then◌else◌, Bool, List, [], ◌∷◌, ◌++◌, length, codes, Option, Some, None}
use Rattle.std.specs.Option.{option_map, option_and_then}
use Rattle.std.specs.Str.{bytes_eq}
use Rattle.line_grammar.specs.Reading.{Reading, row_at, many_at, both_at, made_at, after_at, before_at, counted_at, whole_at}
use Rattle.line_grammar.specs.Fields.{first_number, number_then, number_after, is_numbered}
use Rattle.certificates.specs.declared.node.CertNode.{CertNode}
use Rattle.certificates.specs.declared.node.Certificate.{Certificate}
use Rattle.certificates.specs.Texts.{bit_of, nothing_follows}

-- The tests of single lines.

abbrev pub exact_line : List ℕ → List ℕ → Option (Unit {0})
exact_line bytes line = if bytes_eq line bytes then Some tt else None

-- the line says that a state has so many bits
abbrev pub bits_in : ℕ → List ℕ → Option (Unit {0})
bits_in width line = if is_numbered (codes "bits ") width line then Some tt else None

abbrev pub if_may_count : ℕ → ℕ → Option ℕ
if_may_count width n = if nat_lt 0 width || n == 0 then Some n else None

-- how many nodes the line says that there are
abbrev pub count_in : ℕ → List ℕ → Option ℕ
count_in width line = option_and_then (if_may_count width) (number_after (codes "nodes ") line)

abbrev pub with_hi : ℕ → ℕ → List ℕ → Option (ℕ × ℕ × ℕ)
with_hi bit lo rest = option_map (λ hi. (bit, lo, hi)) (number_after (codes " ") rest)

abbrev pub with_low_child : ℕ → List ℕ → Option (ℕ × ℕ × ℕ)
with_low_child bit rest = option_and_then (λ x. with_hi bit x.0 x.1) (number_then (codes " ") rest)

-- three numbers, with a space between two of them
unfoldable pub three_in : List ℕ → Option (ℕ × ℕ × ℕ)
three_in line = option_and_then (λ x. with_low_child x.0 x.1) (first_number line)

-- whether a node of these numbers may follow the nodes
abbrev pub may_follow : ℕ → List CertNode → ℕ → ℕ → ℕ → Bool
may_follow width before bit lo hi =
    nat_lt bit width && nat_lt lo (length before + 2) && nat_lt hi (length before + 2) && nat_lt bit (bit_of width before lo) && nat_lt bit (bit_of width before hi)

abbrev pub if_may_follow : ℕ → List CertNode → ℕ × ℕ × ℕ → Option CertNode
if_may_follow width before x = if may_follow width before x.0 x.1 x.2 then Some (record { bit = x.0; lo = x.1; hi = x.2 }) else None

-- the node that the line says, if it may follow these
unfoldable pub node_in : ℕ → List CertNode → List ℕ → Option CertNode
node_in width before line = option_and_then (if_may_follow width before) (three_in line)

abbrev pub if_known : ℕ → ℕ → Option ℕ
if_known count n = if nat_lt n (count + 2) then Some n else None

-- the root that the line names, where there are so many nodes
abbrev pub root_in : ℕ → List ℕ → Option ℕ
root_in count line = option_and_then (if_known count) (number_after (codes "root ") line)

-- The reading of a certificate.

abbrev pub node_at : ℕ → List CertNode → Reading (Unit {0}) CertNode
node_at width before = row_at tt (node_in width before)

abbrev pub and_one : List CertNode → CertNode → List CertNode
and_one before x = before ++ x ∷ []

abbrev pub each_node_at : ℕ → ℕ → Reading (Unit {0}) (List CertNode)
each_node_at width count = many_at (node_at width) and_one count []

abbrev pub nodes_at : ℕ → Reading (Unit {0}) (List CertNode)
nodes_at width = counted_at tt (count_in width) (node_at width) and_one []

abbrev pub cert_of : List CertNode × ℕ → Certificate
cert_of parts = record { nodes = parts.0; root = parts.1 }

unfoldable pub cert_main_at : ℕ → Reading (Unit {0}) Certificate
cert_main_at width = after_at tt (exact_line (codes "symk-cert 1")) (after_at tt (bits_in width) (made_at cert_of (both_at (nodes_at width) (λ nodes.
    before_at (row_at tt (root_in (length nodes))) tt (exact_line (codes "end"))))))

abbrev pub text_at : ℕ → Reading (Unit {0}) Certificate
text_at width = whole_at (cert_main_at width) tt nothing_follows

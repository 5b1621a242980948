-- The texts of certificates.
use Rattle.std.specs.Prelude.{◌≡◌, ℕ, ◌+◌, ◌-◌, ◌<◌, nat_lt, if◌then◌else◌, Bool, false, List, [], ◌∷◌, ◌++◌, length, map, codes, slice_get, sum_by}
use Rattle.std.specs.Option.{option_map_or}
use Rattle.symk_task.specs.declared.parts.TaskParts.{TaskParts}
use Rattle.symk_task.specs.Fits.{bits_of}
use Rattle.line_grammar.specs.Rows.{TextOf}
use Rattle.line_grammar.specs.Numbers.{IsNumber, IsNumbered}
use Rattle.certificates.specs.declared.node.CertNode.{CertNode}
use Rattle.certificates.specs.declared.node.Certificate.{Certificate}

-- how many bits a state of the task has
abbrev pub state_width : TaskParts → ℕ
state_width task = sum_by bits_of task.variables

-- Rows.

-- A row of a certificate: the name and version of the format, how many bits a state has, how many nodes there are, one node, the root, or the end.
pub data CertRow : Type 0 where
  version : CertRow
  bits : ℕ → CertRow
  count : ℕ → CertRow
  node : CertNode → CertRow
  root : ℕ → CertRow
  «end» : CertRow

-- the line is the bit and the children of the node, with a space between two numbers
abbrev pub IsNodeLine : CertNode → List ℕ → Type 0
IsNodeLine x line = (bit : List ℕ) × (lo : List ℕ) × (hi : List ℕ) × IsNumber bit x.bit × IsNumber lo x.lo × IsNumber hi x.hi × (line ≡ bit ++ codes " " ++ lo ++ codes " " ++ hi)

-- the line spells the row
abbrev pub IsCertRowSpelled : CertRow → List ℕ → Type 0
IsCertRowSpelled version line = line ≡ codes "symk-cert 1"
IsCertRowSpelled (bits n) line = IsNumbered (codes "bits ") n line
IsCertRowSpelled (count n) line = IsNumbered (codes "nodes ") n line
IsCertRowSpelled (node x) line = IsNodeLine x line
IsCertRowSpelled (root n) line = IsNumbered (codes "root ") n line
IsCertRowSpelled «end» line = line ≡ codes "end"

-- the rows of a certificate of a task whose states have so many bits
abbrev pub cert_rows : ℕ → Certificate → List CertRow
cert_rows width cert = version ∷ bits width ∷ count (length cert.nodes) ∷ map node cert.nodes ++ (root cert.root ∷ «end» ∷ [])

-- Side conditions.

-- the bit that a number asks for, where these are the nodes: a constant none, so the number past the last bit stands for it
abbrev pub bit_of : ℕ → List CertNode → ℕ → ℕ
bit_of width nodes n = if nat_lt n 2 then width else option_map_or (λ (x : CertNode). x.bit) (slice_get nodes (n - 2)) 0

-- A node asks for a bit that a state has, and goes on at numbers before it, each of which asks for a later bit or is a constant.
pub record IsNodeAfter (width : ℕ) (before : List CertNode) (x : CertNode) : Type 0 where
  pub bit : x.bit < width
  pub lo_before : x.lo < length before + 2
  pub hi_before : x.hi < length before + 2
  pub lo_later : x.bit < bit_of width before x.lo
  pub hi_later : x.bit < bit_of width before x.hi

-- each node after these goes on at numbers before it
abbrev pub AreNodesAfter : ℕ → List CertNode → List CertNode → Type 0
AreNodesAfter width before [] = Unit {0}
AreNodesAfter width before (x ∷ nodes) = IsNodeAfter width before x × AreNodesAfter width (before ++ x ∷ []) nodes

-- the nodes and the root are in order, and there is no node where a state has no bit
pub record IsInOrder (width : ℕ) (cert : Certificate) : Type 0 where
  pub none : width ≡ 0 → length cert.nodes ≡ 0
  pub nodes : AreNodesAfter width [] cert.nodes
  pub root : cert.root < length cert.nodes + 2

-- no line may follow
abbrev pub nothing_follows : List ℕ → Bool
nothing_follows line = false

-- The lines are those of a text of this certificate, of a task whose states have so many bits.
abbrev pub IsCertOf : ℕ → List (List ℕ) → Certificate → Type 0
IsCertOf width = TextOf IsCertRowSpelled (cert_rows width) (IsInOrder width) nothing_follows

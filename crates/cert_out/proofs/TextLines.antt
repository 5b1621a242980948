-- The lines of a written certificate are those of a text of it.
use Rattle.std.proofs.Common.{◌≡◌, ℕ, ◌+◌, ◌^◌, ◌<◌, Bool, true, false, cond, nat_lt, List, [], ◌∷◌, ◌++◌, length, map, refl, sym, ◌∙◌, ap, arith, codes, decimal}
use Rattle.std.specs.List.{AllByRecursion}
use Rattle.std.proofs.lemmas.Bool.Decides.{nat_tests}
use Rattle.std.proofs.lemmas.List.{append-nil, length_push}
use Rattle.symk_text.specs.Lines.{without_return, lines}
use Rattle.line_grammar.specs.Rows.{Lines, Spells}
use Rattle.line_grammar.proofs.Exact as grammar
use Rattle.line_grammar.proofs.Decimals.{decimal_number}
use Rattle.sas_writer.specs.Spelling.{text_of}
use Rattle.sas_writer.proofs.Numbers.{number_line}
use Rattle.sas_writer.proofs.Pieces.{Unfed, Plain, Unfed-plain, AllByRecursion-append, without_return-plain, lines-text_of}
use Rattle.certificates.specs.declared.node.CertNode.{CertNode}
use Rattle.certificates.specs.declared.node.Certificate.{Certificate}
use Rattle.certificates.specs.Texts.{CertRow, version, bits, count, node, root, «end», IsCertRowSpelled, cert_rows, AreNodesAfter, IsInOrder, IsCertOf}
use Rattle.cert_out.specs.CertText.{numbered_line, node_line, cert_head_lines, end_lines, cert_lines, cert_text}

-- Lines with neither LF nor CR are those of their text.

unfed : (ls : Lines) → AllByRecursion Plain ls → AllByRecursion Unfed ls
unfed [] h = tt
unfed (l ∷ ls) h = (Unfed-plain l h.0, unfed ls h.1)

returns : (ls : Lines) → AllByRecursion Plain ls → map without_return ls ≡ ls
returns [] h = refl
returns (l ∷ ls) h = ap (λ (x : List ℕ). x ∷ map without_return ls) (without_return-plain l h.0) ∙ ap (λ (xs : Lines). l ∷ xs) (returns ls h.1)

lines_plain : (ls : Lines) → AllByRecursion Plain ls → lines (text_of ls) ≡ ls
lines_plain ls h = lines-text_of ls (unfed ls h) ∙ returns ls h

-- Pieces of lines.

plain_append : (xs ys : List ℕ) → Plain xs → Plain ys → Plain (xs ++ ys)
plain_append = AllByRecursion-append (λ byte. 13 < byte)

above : List ℕ → Bool
above [] = true
above (b ∷ bytes) = cond (nat_lt 13 b) (above bytes) false

plain_of : (bytes : List ℕ) → above bytes ≡ true → Plain bytes
unfolding above
plain_of [] e = tt
plain_of (b ∷ bytes) e = by_byte (nat_lt 13 b) refl (plain_of bytes) e
  where
    by_byte : (t : Bool) → nat_lt 13 b ≡ t → (above bytes ≡ true → Plain bytes) → cond t (above bytes) false ≡ true → Plain (b ∷ bytes)
    by_byte true u rest e = (grind (arith, nat_tests), rest e)
    by_byte false u rest e = cc

decimal_plain : (n : ℕ) → n < 2 ^ 64 → Plain (decimal n)
decimal_plain n lt = (number_line n lt).plain

-- a line is plain, and spells its row
record IsWritten (row : CertRow) (line : List ℕ) : Type 0 where
  plain : Plain line
  spelled : IsCertRowSpelled row line

abbrev AreWritten : List CertRow → Lines → Type 0
AreWritten = Spells IsWritten

written_append : (rows more : List CertRow) (ls ms : Lines) → AreWritten rows ls → AreWritten more ms → AreWritten (rows ++ more) (ls ++ ms)
written_append = grammar.spells_append {S = Unit {0}} (λ (row : CertRow). tt) IsWritten

all_plain : (rows : List CertRow) (ls : Lines) → AreWritten rows ls → AllByRecursion Plain ls
all_plain [] [] h = tt
all_plain [] (l ∷ ls) h = absurd h
all_plain (r ∷ rows) [] h = absurd h
all_plain (r ∷ rows) (l ∷ ls) h = (h.0.plain, all_plain rows ls h.1)

all_spelled : (rows : List CertRow) (ls : Lines) → AreWritten rows ls → Spells IsCertRowSpelled rows ls
all_spelled [] [] h = tt
all_spelled [] (l ∷ ls) h = absurd h
all_spelled (r ∷ rows) [] h = absurd h
all_spelled (r ∷ rows) (l ∷ ls) h = (h.0.spelled, all_spelled rows ls h.1)

-- Numbers.

record IsSmallNode (x : CertNode) : Type 0 where
  bit : x.bit < 2 ^ 64
  lo : x.lo < 2 ^ 64
  hi : x.hi < 2 ^ 64

small_nodes : (width : ℕ) (before xs : List CertNode) → width < 2 ^ 64 → length before + length xs + 2 < 2 ^ 64
    → AreNodesAfter width before xs → AllByRecursion IsSmallNode xs
small_nodes width before [] w room h = tt
small_nodes width before (x ∷ xs) w room h =
    let bit = h.0.bit in
    let lo = h.0.lo_before in
    let hi = h.0.hi_before in (
      record { bit = omega (arith, bit, w); lo = omega (arith, lo, room); hi = omega (arith, hi, room) },
      small_nodes width (before ++ x ∷ []) xs w (omega (arith, room, length_push before x)) h.1,
    )

space_plain : Plain (codes " ")
space_plain = (omega arith, tt)

node_written : (x : CertNode) → IsSmallNode x → IsWritten (node x) (node_line x)
unfolding node_line
node_written x s = record {
  plain = plain_append (decimal x.bit ++ codes " " ++ decimal x.lo ++ codes " ") (decimal x.hi)
      (plain_append (decimal x.bit ++ codes " " ++ decimal x.lo) (codes " ")
      (plain_append (decimal x.bit ++ codes " ") (decimal x.lo)
      (plain_append (decimal x.bit) (codes " ") (decimal_plain x.bit s.bit) space_plain)
      (decimal_plain x.lo s.lo)) space_plain)
      (decimal_plain x.hi s.hi);
  spelled = (decimal x.bit, decimal x.lo, decimal x.hi, decimal_number x.bit s.bit, decimal_number x.lo s.lo, decimal_number x.hi s.hi, refl);
}

nodes_written : (xs : List CertNode) → AllByRecursion IsSmallNode xs → AreWritten (map node xs) (map node_line xs)
nodes_written [] h = tt
nodes_written (x ∷ xs) h = (node_written x h.0, nodes_written xs h.1)

numbered_plain : (word : List ℕ) (n : ℕ) → above word ≡ true → n < 2 ^ 64 → Plain (numbered_line word n)
numbered_plain word n e lt = plain_append word (decimal n) (plain_of word e) (decimal_plain n lt)

head_written : (width many : ℕ) → width < 2 ^ 64 → many < 2 ^ 64 → AreWritten (version ∷ bits width ∷ count many ∷ []) (cert_head_lines width many)
unfolding above
head_written width many w m = (
  record { plain = plain_of (codes "symk-cert 1") refl; spelled = refl },
  (
    record { plain = numbered_plain (codes "bits ") width refl w; spelled = (decimal width, decimal_number width w, refl) },
    (record { plain = numbered_plain (codes "nodes ") many refl m; spelled = (decimal many, decimal_number many m, refl) }, tt),
  ),
)

end_written : (n : ℕ) → n < 2 ^ 64 → AreWritten (root n ∷ «end» ∷ []) (end_lines n)
unfolding above
end_written n lt = (
  record { plain = numbered_plain (codes "root ") n refl lt; spelled = (decimal n, decimal_number n lt, refl) },
  (record { plain = plain_of (codes "end") refl; spelled = refl }, tt),
)

cert_written : (width : ℕ) (cert : Certificate) → width < 2 ^ 64 → length cert.nodes + 2 < 2 ^ 64
    → IsInOrder width cert → AreWritten (cert_rows width cert) (cert_lines width cert)
unfolding cert_lines
cert_written width cert w few order =
    let r = order.root in
    let nodes = nodes_written cert.nodes (small_nodes width [] cert.nodes w (omega (arith, few)) order.nodes) in
    let ends = end_written cert.root (omega (arith, r, few)) in
    written_append (version ∷ bits width ∷ count (length cert.nodes) ∷ [])
    (map node cert.nodes ++ (root cert.root ∷ «end» ∷ [])) (cert_head_lines width (length cert.nodes))
    (map node_line cert.nodes ++ end_lines cert.root)
    (head_written width (length cert.nodes) w (omega (arith, few)))
    (written_append (map node cert.nodes) (root cert.root ∷ «end» ∷ []) (map node_line cert.nodes) (end_lines cert.root) nodes ends)

-- the lines of the text of a certificate in order are those of a text of it
pub text_states : (width : ℕ) (cert : Certificate) → width < 2 ^ 64 → length cert.nodes + 2 < 2 ^ 64
    → IsInOrder width cert → IsCertOf width (lines (cert_text width cert)) cert
text_states width cert w few order =
    let written = cert_written width cert w few order in
    let are : lines (cert_text width cert) ≡ cert_lines width cert =
    lines_plain (cert_lines width cert) (all_plain (cert_rows width cert) (cert_lines width cert) written) in
    record {
      main = cert_lines width cert;
      tail = [];
      whole = are ∙ sym (append-nil (cert_lines width cert));
      spelled = all_spelled (cert_rows width cert) (cert_lines width cert) written;
      follows = tt;
      fits = order;
    }

-- The sections of a file are read exactly.
use Rattle.std.proofs.Common.{ℕ, ◌+◌, ◌≤◌, List, [], ◌∷◌, ◌++◌, codes}
use Rattle.symk_text.specs.Lines.{IsLine}
use Rattle.sas_reader.specs.declared.fault.Shape.{Shape}
use Rattle.sas_reader.specs.declared.fault.Shape.TheVariants as shape
use Rattle.line_grammar.specs.Reading.{Reading, after_at, before_at}
use Rattle.line_grammar.proofs.Exact as grammar
use Rattle.line_grammar.proofs.Joining as joining
use Rattle.sas_reader.specs.Rows.{Row, word, name, one_number, shape_of, IsSpelled}
use Rattle.sas_reader.specs.Format.{header_rows, name_rows}
use Rattle.sas_reader.specs.Reading.{exactly, a_name, three, count_to, name_at, header_at}
use Rattle.sas_reader.proofs.Lines.{word_is, name_is, three_is, count_is}

abbrev pub Exact : {A : Type 0} → Reading Shape A → (A → List Row) → (A → Type 0) → Type 0
Exact = grammar.Exact shape_of IsSpelled

abbrev pub FitFrom : {X T : Type 0} → (T → X → Type 0) → (T → X → T) → T → List X → Type 0
FitFrom = grammar.FitFrom shape_of IsSpelled

pub after_word : {A : Type 0} (shape : Shape) (bytes : List ℕ) (p : Reading Shape A) (rows : A → List Row)
    (F : A → Type 0) → Exact p rows F → Exact (after_at shape (exactly bytes) p) (λ a. word shape bytes ∷ rows a) F
after_word shape bytes p rows F ep = joining.exact_after shape_of IsSpelled shape (exactly bytes) (word shape bytes) p rows F (word_is shape bytes) ep

pub before_word : {A : Type 0} (shape : Shape) (bytes : List ℕ) (p : Reading Shape A) (rows : A → List Row)
    (F : A → Type 0) → Exact p rows F → Exact (before_at p shape (exactly bytes))
    (λ a. rows a ++ word shape bytes ∷ []) F
before_word shape bytes p rows F ep = joining.exact_before shape_of IsSpelled p shape (exactly bytes) (word shape bytes) rows F (word_is shape bytes) ep

abbrev pub IsMetric : ℕ → Type 0
IsMetric n = n ≤ 1

pub exact_header : Exact header_at header_rows IsMetric
unfolding header_at
exact_header =
    after_word shape.BeginVersion (codes "begin_version") _ _ IsMetric
    (joining.exact_after shape_of IsSpelled shape.Three three (one_number shape.Three 3) _ _ IsMetric three_is
    (after_word shape.EndVersion (codes "end_version") _ _ IsMetric
    (after_word shape.BeginMetric (codes "begin_metric") _ _ IsMetric
    (before_word shape.EndMetric (codes "end_metric") _ _ IsMetric
    (grammar.exact_row shape_of IsSpelled shape.Metric (count_to 1) (one_number shape.Metric) IsMetric (count_is shape.Metric 1))))))

pub exact_name : Exact (name_at tt) name_rows IsLine
exact_name = grammar.exact_row shape_of IsSpelled shape.Name a_name name IsLine name_is

-- Blank lines to the end, one by one.
use Rattle.std.proofs.Common.{◌≡◌, ◌+◌, ◌≤◌, Bool, true, false, cond, [], ◌∷◌, length, Ok, Err, Some, None, refl, sym, ap, ◌∙◌, arith}
use Rattle.sas_reader.specs.declared.fault.Shape.{Shape}
use Rattle.sas_reader.specs.declared.fault.Shape.TheVariants as shape
use Rattle.line_grammar.specs.declared.Offence.{Offence}
use Rattle.line_grammar.specs.declared.Stopped.{Stopped}
use Rattle.line_grammar.specs.declared.Stopped.TheVariants as stopped
use Rattle.line_grammar.specs.Rows.{Lines}
use Rattle.line_grammar.specs.Reading.{Read, picked, tail_at, FailsReading}
use Rattle.line_grammar.proofs.Exact as grammar
use Rattle.sas_reader.specs.Rows.{shape_of, IsSpelled}
use Rattle.sas_reader.specs.Numbers.{is_blank}
use Rattle.sas_reader.specs.Reading.{blank_at}

abbrev pub blanks_at : Lines → Read Shape (Unit {0})
blanks_at lines = tail_at shape.Blank is_blank lines

pub blank_goes : (lines rest : Lines) → blank_at lines ≡ Ok (tt, rest) → (blanks_at lines ≡ blanks_at rest) × (length lines ≡ length rest + 1)
unfolding tail_at
blank_goes [] rest e = cc
blank_goes (l ∷ lines) rest e = by_test (is_blank l) refl e
  where
    by_test : (t : Bool) → is_blank l ≡ t → picked shape.Blank l lines (cond t (Some (tt {0})) None) ≡ Ok (tt, rest)
        → (blanks_at (l ∷ lines) ≡ blanks_at rest) × (length (l ∷ lines) ≡ length rest + 1)
    by_test true t e =
        let same : lines ≡ rest = (grammar.ok_both shape_of IsSpelled (Ok (tt, lines)) (tt, lines) (tt, rest) refl e).1 in
        (rw t (ap blanks_at same), (let n : length lines ≡ length rest = ap (λ (z : Lines). length z) same in omega arith))
    by_test false t e = cc

blank_stops : (lines : Lines) (f : Offence Shape) → 1 ≤ length lines → blank_at lines ≡ Err f → blanks_at lines ≡ Err f
unfolding tail_at
blank_stops [] f some e = absurd (omega arith)
blank_stops (l ∷ lines) f some e = by_test (is_blank l) refl e
  where
    by_test : (t : Bool) → is_blank l ≡ t → picked shape.Blank l lines (cond t (Some (tt {0})) None) ≡ Err f → blanks_at (l ∷ lines) ≡ Err f
    by_test true t e = cc
    by_test false t e = rw t e

pub blank_ends : (lines : Lines) (e : Stopped Shape) (total : Read Shape (Unit {0})) → 1 ≤ length lines
    → FailsReading e (blank_at lines) → blanks_at lines ≡ total → FailsReading e total
blank_ends lines stopped.Memory total some h so_far = tt
blank_ends lines (stopped.Offence f) total some h so_far = sym so_far ∙ blank_stops lines f some h

pub blanks_done : (lines : Lines) (total : Read Shape (Unit {0})) → length lines ≡ 0 → blanks_at lines ≡ total → total ≡ Ok (tt, [])
unfolding tail_at
blanks_done [] total e so_far = sym so_far
blanks_done (l ∷ lines) total e so_far = absurd (omega arith)

-- The section of the variables is read exactly.
use Rattle.std.proofs.Common.{◌≡◌, ℕ, ◌+◌, ◌^◌, ◌≤◌, ◌<◌, true, cond, nat_le, List, [], ◌∷◌, ◌++◌, length, Option, Some, None, IfSome, is_none, Ok, refl, subst, arith, codes}
use Rattle.std.proofs.lemmas.Option.{cond_some}
use Rattle.std.proofs.lemmas.Bool.Decides.{nat_tests}
use Rattle.std.specs.Option.{option_and_then}
use Rattle.std.specs.List.{flat_map}
use Rattle.symk_text.specs.Lines.{IsLine}
use Rattle.symk_task.specs.declared.parts.Variable.{Variable}
use Rattle.symk_task.specs.Variables.{range, width, doublings}
use Rattle.symk_task.specs.Fits.{bits_of}
use Rattle.sas_reader.specs.declared.fault.Shape.TheVariants as shape
use Rattle.line_grammar.specs.Rows.{Lines}
use Rattle.line_grammar.specs.Reading.{row_at, both_at, before_at}
use Rattle.line_grammar.proofs.Exact as grammar
use Rattle.line_grammar.proofs.Joining as joining
use Rattle.sas_reader.specs.Numbers.{only_number}
use Rattle.sas_reader.specs.Rows.{word, name, numbers, one_number, shape_of, IsSpelled}
use Rattle.sas_reader.specs.Format.{name_rows, variable_rows, counted_rows}
use Rattle.sas_reader.specs.Reading.{exactly, number_that, count_to, if_layer, layer_in, may_have, name_at, kept, values_at, variable_of, variable_at, variables_at, used_after}
use Rattle.sas_reader.proofs.Lines.{RowIs, picked_are, number_is, count_is}
use Rattle.sas_reader.proofs.Sections.{Exact, FitFrom, after_word, before_word, exact_name}

abbrev pub IsLayer : Option ℕ → Type 0
IsLayer layer = IfSome layer (λ n. n < 65536)

layer_taken : (l : List (Option ℕ)) (x : Option ℕ) → option_and_then if_layer (only_number l) ≡ Some x → IsLayer x × (l ≡ x ∷ [])
layer_taken [] x e = cc
layer_taken (None ∷ []) x e = (let same : None ≡ x = cc in subst
    (λ (z : Option ℕ). IsLayer z × (let l : List (Option ℕ) = None ∷ [] in l ≡ z ∷ [])) same (tt, refl))
layer_taken (Some n ∷ []) x e =
    let k = cond_some (nat_le n 65535) (Some n) x e in
    let small : n < 65536 = (let t = k.0 in grind (arith, nat_tests)) in
    subst (λ (z : Option ℕ). IsLayer z × (let l : List (Option ℕ) = Some n ∷ [] in l ≡ z ∷ [])) k.1 (small, refl)
layer_taken (n ∷ m ∷ ns) x e = cc

layer_again : (x : Option ℕ) → IsLayer x → if_layer x ≡ Some x
layer_again None f = refl
layer_again (Some n) f = (let t : nat_le n 65535 ≡ true = grind (arith, nat_tests) in rw t refl)

layer_is : RowIs shape.Layer layer_in (λ layer. numbers shape.Layer (layer ∷ [])) IsLayer
layer_is = picked_are shape.Layer only_number if_layer (λ layer. layer ∷ []) IsLayer layer_taken layer_again None tt (tt, tt)

some_range : (layer : Option ℕ) (used : ℕ) → used ≤ 65536 → (n : ℕ) × (may_have layer used n ≡ true) × (n < 2 ^ 64)
unfolding width doublings
some_range (Some layer) used small = (2, refl, omega arith)
some_range None used small = (1, (let t : nat_le (used + 0) 65536 ≡ true = grind (arith, nat_tests) in t), omega arith)

range_is : (layer : Option ℕ) (used : ℕ) → used ≤ 65536 → RowIs shape.Range (number_that (may_have layer used))
    (one_number shape.Range) (λ n. may_have layer used n ≡ true)
range_is layer used small = (let s = some_range layer used small in number_is shape.Range (may_have layer used)
    (λ n. may_have layer used n ≡ true) (λ n e. e) (λ n e. e) s.0 s.1 s.2)

abbrev pub AreLines : List (List ℕ) → Type 0
AreLines = FitFrom {X = List ℕ} {T = Unit {0}} (λ _ x. IsLine x) kept (tt {0})

abbrev pub ValuesFit : Option ℕ → ℕ → List (List ℕ) → Type 0
ValuesFit layer used values = (may_have layer used (length values) ≡ true) × AreLines values

exact_values : (layer : Option ℕ) (used : ℕ) → used ≤ 65536 → Exact (values_at layer used)
    (λ values. one_number shape.Range (length values) ∷ flat_map name_rows values) (ValuesFit layer used)
exact_values layer used small =
    joining.exact_counted shape_of IsSpelled name_at kept name_rows (λ _ x. IsLine x) (λ _. Unit {0}) (λ _ _. exact_name) (λ _ _ _ _. tt)
    shape.Range (number_that (may_have layer used)) (one_number shape.Range) (λ n. may_have layer used n ≡ true) tt (range_is layer used small) (λ _ _ _. tt)

abbrev pub VariableFits : ℕ → Variable → Type 0
VariableFits used v = IsLine v.name × (IsLayer v.layer × ValuesFit v.layer used v.values)

abbrev parts_of : Variable → List ℕ × (Option ℕ × List (List ℕ))
parts_of v = (v.name, (v.layer, v.values))

pub exact_variable : (used : ℕ) → used ≤ 65536 → Exact (variable_at used) variable_rows (VariableFits used)
unfolding variable_at
exact_variable used small =
    joining.exact_made shape_of IsSpelled variable_of parts_of (λ a. refl) (λ v. refl) _ _ (λ x. IsLine x.0 × (IsLayer x.1.0 × ValuesFit x.1.0 used x.1.1))
    (after_word shape.BeginVariable (codes "begin_variable") _ _ (λ x. IsLine x.0 × (IsLayer x.1.0 × ValuesFit x.1.0 used x.1.1))
    (joining.exact_both shape_of IsSpelled (name_at tt) (λ _. both_at (row_at shape.Layer layer_in)
    (λ layer. before_at (values_at layer used) shape.EndVariable (exactly (codes "end_variable")))) name_rows
    IsLine
    (λ _ x. (numbers shape.Layer (x.0 ∷ []) ∷ []) ++ ((one_number shape.Range (length x.1) ∷ flat_map name_rows x.1)
    ++ word shape.EndVariable (codes "end_variable") ∷ []))
    (λ _ x. IsLayer x.0 × ValuesFit x.0 used x.1)
    exact_name
    (λ _ _. joining.exact_both shape_of IsSpelled (row_at shape.Layer layer_in)
    (λ layer. before_at (values_at layer used) shape.EndVariable (exactly (codes "end_variable")))
    (λ layer. numbers shape.Layer (layer ∷ []) ∷ []) IsLayer
    (λ layer values. (one_number shape.Range (length values) ∷ flat_map name_rows values) ++ word shape.EndVariable (codes "end_variable") ∷ [])
    (λ layer values. ValuesFit layer used values)
    (grammar.exact_row shape_of IsSpelled shape.Layer layer_in (λ layer. numbers shape.Layer (layer ∷ [])) IsLayer layer_is)
    (λ layer _. before_word shape.EndVariable (codes "end_variable") (values_at layer used) _ (ValuesFit layer used) (exact_values layer used small)))))

-- what is used with a variable

bits_within : (layer : Option ℕ) (used n : ℕ) → used ≤ 65536 → may_have layer used n ≡ true → (1 ≤ n) × (n ≤ 65536)
    × (used + cond (is_none layer) (width n) 0 ≤ 65536)
bits_within (Some layer) used n small e = (grind (arith, nat_tests), grind (arith, nat_tests), omega arith)
bits_within None used n small e = (grind (arith, nat_tests), grind (arith, nat_tests), grind (arith, nat_tests))

pub variable_within : (used : ℕ) (v : Variable) → used ≤ 65536 → VariableFits used v → (1 ≤ range v) × (range v ≤ 65536) × (used + bits_of v ≤ 65536)
variable_within used v small f = bits_within v.layer used (length v.values) small f.1.1.0

-- a variable that was read
pub variable_read : (used : ℕ) (lines rest : Lines) (v : Variable) → used ≤ 65536
    → variable_at used lines ≡ Ok (v, rest) → (1 ≤ range v) × (range v ≤ 65536) × (used + bits_of v ≤ 65536)
variable_read used lines rest v small e = variable_within used v small ((exact_variable used small).takes lines v rest e).fits

abbrev pub VariablesFit : List Variable → Type 0
VariablesFit vs = (length vs ≤ 65536) × FitFrom VariableFits used_after 0 vs

pub exact_variables : Exact variables_at (counted_rows variable_rows) VariablesFit
exact_variables =
    joining.exact_counted shape_of IsSpelled variable_at used_after variable_rows VariableFits (λ used. used ≤ 65536)
    exact_variable (λ used v small f. (variable_within used v small f).2)
    shape.Count (count_to 65536) (one_number shape.Count) (λ n. n ≤ 65536) 0 (count_is shape.Count 65536) (λ _ _ _. omega arith)

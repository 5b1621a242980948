-- A whole file is read exactly.
use Rattle.std.proofs.Common.{◌≡◌, ℕ, zero, suc, ◌+◌, ◌-◌, ◌≤◌, ◌<◌, true, cond, nat_le, List, [], ◌∷◌, ◌++◌, length, get_or, Option, Some, None, IfSome, slice_get, is_none, Ok, Err, take, refl, sym, ap, subst, ◌∙◌, arith}
use Rattle.std.proofs.lemmas.List.Elements.{All-nil, All-cons, All-head, All-tail}
use Rattle.std.proofs.lemmas.List.Sums.{sum_by-cons}
use Rattle.std.proofs.lemmas.Bool.Decides.{nat_tests}
use Rattle.std.specs.Option.{option_map_or}
use Rattle.std.specs.List.{All, sum_by}
use Rattle.symk_text.specs.Lines.{IsLine}
use Rattle.symk_task.specs.declared.parts.Fact.{Fact}
use Rattle.symk_task.specs.declared.parts.Variable.{Variable}
use Rattle.symk_task.specs.declared.parts.Operator.{Operator}
use Rattle.symk_task.specs.declared.parts.Rule.{Rule}
use Rattle.symk_task.specs.declared.parts.TaskParts.{TaskParts}
use Rattle.symk_task.specs.Variables.{range, width}
use Rattle.symk_task.specs.Fits.{bits_of, AreFacts, FitsVariable, FitsOperator, FitsRule, Fits}
use Rattle.sas_reader.specs.declared.fault.Shape.{Shape}
use Rattle.sas_reader.specs.declared.fault.Shape.TheVariants.{Blank}
use Rattle.sas_reader.specs.Numbers.{is_blank}
use Rattle.line_grammar.specs.declared.Offence.{Offence}
use Rattle.line_grammar.specs.Rows.{Lines, Offends}
use Rattle.line_grammar.specs.Reading.{Reading, both_at}
use Rattle.line_grammar.proofs.Exact as grammar
use Rattle.line_grammar.proofs.Joining as joining
use Rattle.sas_reader.specs.Known.{Known}
use Rattle.sas_reader.specs.Rows.{Row, shape_of, IsSpelled}
use Rattle.sas_reader.specs.Format.{header_rows, counted_rows, variable_rows, group_rows, state_rows, goal_rows, operator_rows, rule_rows, file_rows, IsFileOf, Wants}
use Rattle.sas_reader.specs.Reading.{kept, may_have, used_after, range_at, next_place, header_at, file_at, variables_at, groups_at, state_at, goal_at, operators_at, rules_at, Parts, task_of, main_at}
use Rattle.sas_reader.proofs.Sections.{Exact, FitFrom, IsMetric, exact_header}
use Rattle.sas_reader.proofs.VariableSection.{VariableFits, VariablesFit, variable_within, exact_variables}
use Rattle.sas_reader.proofs.FactSections.{Good, ValuesFit, all_fit, fit_all, exact_groups, exact_state, exact_goal}
use Rattle.sas_reader.proofs.OperatorSection.{exact_operators}
use Rattle.sas_reader.proofs.RuleSection.{Layered, Defaults, RuleIsFit, exact_rules}

-- The variables.

derived_two : (layer : Option ℕ) (used n : ℕ) → may_have layer used n ≡ true → IfSome layer (λ _. n ≡ 2)
derived_two None used n e = tt
derived_two (Some layer) used n e = grind (arith, nat_tests)

may_have_so : (layer : Option ℕ) (used n : ℕ) → 1 ≤ n → n ≤ 65536 → IfSome layer (λ _. n ≡ 2)
    → used + cond (is_none layer) (width n) 0 ≤ 65536 → may_have layer used n ≡ true
may_have_so (Some layer) used n some most two bits = (let e : n ≡ 2 = two in grind (arith, nat_tests))
may_have_so None used n some most two bits =
    let a : nat_le 1 n ≡ true = grind (arith, nat_tests) in
    let b : nat_le n 65536 ≡ true = grind (arith, nat_tests) in
    let c : nat_le (used + width n) 65536 ≡ true = grind (arith, nat_tests) in
    rw (a, b, c) refl

variable_fits : (used : ℕ) (v : Variable) → used ≤ 65536 → VariableFits used v → FitsVariable v
variable_fits used v small f =
    let w = variable_within used v small f in
    let lines : All IsLine v.values = all_fit IsLine v.values f.1.1.1 in
    record {
      name = record { line = f.0 };
      values = λ k d lt. record { line = lines k d lt };
      range = record { some = w.0; most = w.1; derived = derived_two v.layer used (range v) f.1.1.0; layer_most = f.1.0 };
    }

fits_variable : (used : ℕ) (v : Variable) → FitsVariable v → used + bits_of v ≤ 65536 → VariableFits used v
fits_variable used v f bits = (
  f.name.line,
  (
    f.range.layer_most,
    (
      may_have_so v.layer used (range v) f.range.some f.range.most f.range.derived
          bits,
      fit_all IsLine v.values (λ k d lt. (f.values k d lt).line),
    ),
  ),
)

variables_fit : (used : ℕ) (vs : List Variable) → used ≤ 65536 → FitFrom VariableFits used_after used vs
    → All FitsVariable vs × (used + sum_by bits_of vs ≤ 65536)
variables_fit used [] small f = (All-nil FitsVariable, omega arith)
variables_fit used (v ∷ vs) small f =
    let w = variable_within used v small f.0 in
    let rest = variables_fit (used_after used v) vs w.2 f.1 in
    (All-cons FitsVariable v vs (variable_fits used v small f.0) rest.0, omega (arith, sum_by-cons bits_of v vs, rest.1))

fit_variables : (used : ℕ) (vs : List Variable) → All FitsVariable vs → used + sum_by bits_of vs ≤ 65536 → FitFrom VariableFits used_after used vs
fit_variables used [] each sum = tt
fit_variables used (v ∷ vs) each sum =
    let s = sum_by-cons bits_of v vs in (
      fits_variable used v (All-head FitsVariable v vs each) (omega (arith, s)),
      fit_variables (used_after used v) vs
          (All-tail FitsVariable v vs each) (omega (arith, s)),
    )

good_of : (vs : List Variable) → length vs ≤ 65536 → All FitsVariable vs → Good vs
good_of vs few each = record {
  few = few;
  some = λ k d lt. (each k d lt).range.some;
  small = λ k d lt.
      (each k d lt).range.most;
  derived = λ k d lt. (each k d lt).range.derived;
}

pub good : (vs : List Variable) → VariablesFit vs → Good vs
good vs f = good_of vs f.0 (variables_fit 0 vs (omega arith) f.1).0

-- The values.

get_some : (vs : List Variable) (i : ℕ) → i < length vs → (v : Variable) × (slice_get vs i ≡ Some v)
get_some [] i lt = absurd (omega arith)
get_some (v ∷ vs) zero lt = (v, refl)
get_some (v ∷ vs) (suc i) lt = get_some vs i (omega arith)

some_within : (vs : List Variable) (i : ℕ) (v : Variable) → slice_get vs i ≡ Some v → i < length vs
some_within [] i v e = cc
some_within (w ∷ vs) zero v e = omega arith
some_within (w ∷ vs) (suc i) v e = (let k = some_within vs i v e in omega arith)

value_at_place : (vs : List Variable) (place : ℕ) (values : List ℕ)
    → FitFrom (λ var n. n < range_at vs var) next_place place values → (i : ℕ) → i < length values
    → get_or values i 0 < range_at vs (place + i)
value_at_place vs place [] f i lt = absurd (omega arith)
value_at_place vs place (n ∷ values) f zero lt = (let e : place ≡ place + 0 = omega arith in subst (λ (z : ℕ). n < range_at vs z) e f.0)
value_at_place vs place (n ∷ values) f (suc i) lt = (let e : (place + 1) + i ≡ place + suc i = omega arith in subst
    (λ (z : ℕ). get_or values i 0 < range_at vs z) e (value_at_place vs (place + 1) values f.1 i (omega arith)))

place_values : (vs : List Variable) (place : ℕ) (values : List ℕ)
    → ((i : ℕ) → i < length values → get_or values i 0 < range_at vs (place + i))
    → FitFrom (λ var n. n < range_at vs var) next_place place values
place_values vs place [] h = tt
place_values vs place (n ∷ values) h = (
  (let e : place + 0 ≡ place = omega arith in subst (λ (z : ℕ). n < range_at vs z) e (h 0 (omega arith))),
  place_values vs (place + 1) values
      (λ i lt. (let e : place + suc i ≡ (place + 1) + i = omega arith in subst
      (λ (z : ℕ). get_or values i 0 < range_at vs z) e (h (suc i) (omega arith)))),
)

abbrev EachValue : List Variable → List ℕ → Type 0
EachValue vs values = (var : ℕ) → IfSome (slice_get vs var) (λ v. get_or values var 0 < range v)

values_in : (vs : List Variable) (values : List ℕ) → ValuesFit vs values → EachValue vs values
values_in vs values f var = by_variable (slice_get vs var) refl
  where
    by_variable : (o : Option Variable) → slice_get vs var ≡ o → IfSome o (λ v. get_or values var 0 < range v)
    by_variable None e = tt
    by_variable (Some v) e =
        let lt : var < length values = omega (arith, some_within vs var v e, f.0) in
        let k : get_or values var 0 < range_at vs (0 + var) = value_at_place vs 0 values f.1 var lt in
        let z : 0 + var ≡ var = omega arith in
        subst (λ (n : ℕ). get_or values var 0 < n) (ap (range_at vs) z ∙ ap (λ (o : Option Variable). option_map_or range o 1) e) k

in_values : (vs : List Variable) (values : List ℕ) → length values ≡ length vs → EachValue vs values → ValuesFit vs values
in_values vs values len each = (
  len,
  place_values vs 0 values (λ i lt.
      let s = get_some vs i (omega arith) in
      let k : IfSome (Some s.0) (λ v. get_or values i 0 < range v) =
      subst (λ (o : Option Variable). IfSome o (λ v. get_or values i 0 < range v)) s.1 (each i) in
      let z : i ≡ 0 + i = omega arith in
      subst (λ (n : ℕ). get_or values i 0 < n) (sym (ap (λ (o : Option Variable). option_map_or range o 1) s.1) ∙ ap (range_at vs) z) k),
)

layered_derived : (vs : List Variable) (var layer : ℕ) → All (λ v. IfSome v.layer (λ _. range v ≡ 2)) vs → Layered vs var layer → range_at vs var ≡ 2
layered_derived [] var layer d h = absurd h
layered_derived (v ∷ vs) zero layer d h = (let two : IfSome v.layer (λ _. range v ≡ 2) = All-head
    (λ v. IfSome v.layer (λ _. range v ≡ 2)) v vs d in subst (λ (o : Option ℕ). IfSome o (λ _. range v ≡ 2)) h two)
layered_derived (v ∷ vs) (suc var) layer d h = layered_derived vs var layer (All-tail (λ v. IfSome v.layer (λ _. range v ≡ 2)) v vs d) h

layered_within : (vs : List Variable) (var layer : ℕ) → Layered vs var layer → var < length vs
layered_within [] var layer h = absurd h
layered_within (v ∷ vs) zero layer h = omega arith
layered_within (v ∷ vs) (suc var) layer h = (let k = layered_within vs var layer h in omega arith)

defaults_of : (vs : List Variable) (values : List ℕ) → Good vs → ValuesFit vs values → Defaults vs values
defaults_of vs values g f var layer on =
    let lt : var < length values = omega (arith, layered_within vs var layer on, f.0) in
    let k : get_or values var 0 < range_at vs (0 + var) = value_at_place vs 0 values f.1 var lt in
    let z : 0 + var ≡ var = omega arith in
    subst (λ (n : ℕ). get_or values var 0 < n) (ap (range_at vs) z ∙ layered_derived vs var layer g.derived on) k

-- The sections, from the last on.

abbrev AtMost : {X : Type 0} → (X → Type 0) → ℕ → List X → Type 0
AtMost P most xs = (length xs ≤ most) × All P xs

abbrev OperatorsOn : List Variable → List ℕ → List Operator × List Rule → Type 0
OperatorsOn vs values x = AtMost (FitsOperator vs) 1000000 x.0 × AtMost (RuleIsFit vs values) 1000000 x.1

abbrev operators_on : List Operator × List Rule → List Row
operators_on x = counted_rows operator_rows x.0 ++ counted_rows rule_rows x.1

from_operators : (vs : List Variable) (values : List ℕ) → Good vs → Defaults vs values
    → Exact (both_at (operators_at vs) (λ _. rules_at vs values)) operators_on (OperatorsOn vs values)
from_operators vs values g d =
    joining.exact_both shape_of IsSpelled (operators_at vs) (λ _. rules_at vs values) (counted_rows operator_rows)
    (AtMost (FitsOperator vs) 1000000) (λ _. counted_rows rule_rows) (λ _. AtMost (RuleIsFit vs values) 1000000)
    (exact_operators vs g) (λ _ _. exact_rules vs values g d)

abbrev goal_on : List Fact × (List Operator × List Rule) → List Row
goal_on x = goal_rows x.0 ++ operators_on x.1

abbrev GoalOn : List Variable → List ℕ → List Fact × (List Operator × List Rule) → Type 0
GoalOn vs values x = AreFacts vs x.0 × OperatorsOn vs values x.1

from_goal : (vs : List Variable) (values : List ℕ) → Good vs → Defaults vs values
    → Exact (both_at (goal_at vs) (λ _. both_at (operators_at vs) (λ _. rules_at vs values)))
    goal_on (GoalOn vs values)
from_goal vs values g d =
    joining.exact_both shape_of IsSpelled (goal_at vs) (λ _. both_at (operators_at vs) (λ _. rules_at vs values))
    goal_rows (AreFacts vs) (λ _. operators_on) (λ _. OperatorsOn vs values)
    (exact_goal vs g) (λ _ _. from_operators vs values g d)

abbrev After : Type 0
After = List ℕ × (List Fact × (List Operator × List Rule))

abbrev state_on : After → List Row
state_on x = state_rows x.0 ++ goal_on x.1

abbrev StateOn : List Variable → After → Type 0
StateOn vs x = ValuesFit vs x.0 × GoalOn vs x.0 x.1

from_state : (vs : List Variable) → Good vs → Exact (both_at (state_at vs)
    (λ values. both_at (goal_at vs) (λ _. both_at (operators_at vs) (λ _. rules_at vs values)))) state_on
    (StateOn vs)
from_state vs g =
    joining.exact_both shape_of IsSpelled (state_at vs) (λ values. both_at (goal_at vs)
    (λ _. both_at (operators_at vs) (λ _. rules_at vs values))) state_rows (ValuesFit vs) (λ _. goal_on)
    (λ values. GoalOn vs values)
    (exact_state vs g) (λ values f. from_goal vs values g (defaults_of vs values g f))

abbrev groups_on : List (List Fact) × After → List Row
groups_on x = counted_rows group_rows x.0 ++ state_on x.1

abbrev GroupsOn : List Variable → List (List Fact) × After → Type 0
GroupsOn vs x = AtMost (AreFacts vs) 1000000 x.0 × StateOn vs x.1

abbrev groups_reading : List Variable → Reading Shape (List (List Fact) × After)
groups_reading vs = both_at (groups_at vs) (λ _. both_at (state_at vs)
    (λ values. both_at (goal_at vs) (λ _. both_at (operators_at vs) (λ _. rules_at vs values))))

from_groups : (vs : List Variable) → Good vs → Exact (groups_reading vs) groups_on (GroupsOn vs)
from_groups vs g =
    joining.exact_both shape_of IsSpelled (groups_at vs) (λ _. both_at (state_at vs)
    (λ values. both_at (goal_at vs) (λ _. both_at (operators_at vs) (λ _. rules_at vs values))))
    (counted_rows group_rows) (AtMost (AreFacts vs) 1000000) (λ _. state_on) (λ _. StateOn vs)
    (exact_groups vs g) (λ _ _. from_state vs g)

abbrev variables_on : List Variable × (List (List Fact) × After) → List Row
variables_on x = counted_rows variable_rows x.0 ++ groups_on x.1

abbrev VariablesOn : List Variable × (List (List Fact) × After) → Type 0
VariablesOn x = VariablesFit x.0 × GroupsOn x.0 x.1

from_variables : Exact (both_at variables_at groups_reading) variables_on VariablesOn
from_variables = joining.exact_both shape_of IsSpelled variables_at groups_reading (counted_rows variable_rows)
    VariablesFit (λ _. groups_on) GroupsOn exact_variables (λ vs f. from_groups vs (good vs f))

abbrev parts_on : Parts → List Row
parts_on x = header_rows x.0 ++ variables_on x.1

abbrev PartsOn : Parts → Type 0
PartsOn x = IsMetric x.0 × VariablesOn x.1

abbrev parts_of : TaskParts → Parts
parts_of t = (t.metric, (t.variables, (t.mutexes, (t.initial, (t.goal, (t.operators, t.rules))))))

exact_parts : Exact (both_at header_at (λ _. both_at variables_at groups_reading)) parts_on PartsOn
exact_parts = joining.exact_both shape_of IsSpelled header_at (λ _. both_at variables_at groups_reading) header_rows
    IsMetric (λ _. variables_on) (λ _. VariablesOn) exact_header (λ _ _. from_variables)

rule_fits : (task : TaskParts) (rule : Rule) → RuleIsFit task.variables task.initial rule → FitsRule task rule
rule_fits task rule f = record { conds = f.0; layer = f.1.layer; on = f.1.on; new = f.1.new; kept = f.1.kept }

fits_rule : (task : TaskParts) (rule : Rule) → FitsRule task rule → RuleIsFit task.variables task.initial rule
fits_rule task rule f = (f.conds, record { layer = f.layer; on = f.on; new = f.new; kept = f.kept })

task_fits : (t : TaskParts) → PartsOn (parts_of t) → Fits t
task_fits t f =
    let vs = variables_fit 0 t.variables (omega arith) f.1.0.1 in
    record {
      metric = omega (arith, f.0);
      variables = f.1.0.0;
      each_variable = vs.0;
      bits = omega (arith, vs.1);
      mutexes = f.1.1.0.0;
      each_mutex = f.1.1.0.1;
      initial = f.1.1.1.0.0;
      each_value = values_in t.variables t.initial f.1.1.1.0;
      goal = f.1.1.1.1.0;
      operators = f.1.1.1.1.1.0.0;
      each_operator = f.1.1.1.1.1.0.1;
      rules = f.1.1.1.1.1.1.0;
      each_rule = λ k d lt. rule_fits t (get_or t.rules k d) (f.1.1.1.1.1.1.1 k d lt);
    }

fits_task : (t : TaskParts) → Fits t → PartsOn (parts_of t)
fits_task t f = (
  (let m = f.metric in omega arith),
  (
    (f.variables, fit_variables 0 t.variables f.each_variable (let b = f.bits in omega arith)),
    (
      (f.mutexes, f.each_mutex),
      (
        in_values t.variables t.initial f.initial f.each_value,
        (f.goal, ((f.operators, f.each_operator), (f.rules, λ k d lt. fits_rule t (get_or t.rules k d) (f.each_rule k d lt)))),
      ),
    ),
  ),
)

-- a file is read exactly
pub exact_file : Exact main_at file_rows Fits
unfolding main_at
exact_file =
    grammar.exact_as shape_of IsSpelled main_at file_rows file_rows (λ t. PartsOn (parts_of t)) Fits
    (joining.exact_made shape_of IsSpelled task_of parts_of (λ a. refl) (λ t. refl)
    (both_at header_at (λ _. both_at variables_at groups_reading)) parts_on PartsOn exact_parts)
    (λ t f. (task_fits t f, refl)) (λ t f. fits_task t f)

-- What was read, one section after the other.

pub metric_read : (lines rest : Lines) (metric : ℕ) → header_at lines ≡ Ok (metric, rest) → metric ≤ 1
metric_read lines rest metric e = (exact_header.takes lines metric rest e).fits

pub variables_read : (lines rest : Lines) (vs : List Variable) → variables_at lines ≡ Ok (vs, rest) → Known vs
variables_read lines rest vs e = (let g = good vs (exact_variables.takes lines vs rest e).fits in record { few = g.few; small = g.small })

pub state_read : (before lines rest after : Lines) (vs : List Variable) (values : List ℕ)
    → variables_at before ≡ Ok (vs, after) → state_at vs lines ≡ Ok (values, rest) → length values ≡ length vs
state_read before lines rest after vs values v e = ((exact_state vs (good vs (exact_variables.takes before vs after v).fits)).takes lines values rest e).fits.0

-- What reading a whole file says.

pub file_given : (read lines : Lines) (made task : TaskParts) → read ≡ lines → task ≡ made → file_at read ≡ Ok (made, []) → IsFileOf lines task
file_given read lines made task same is e =
    let f = grammar.found shape_of IsSpelled main_at file_rows Fits exact_file Blank is_blank read made [] e in
    subst (λ (l : Lines). IsFileOf l task) same (subst (IsFileOf read) (sym is) f)

pub file_fits : (read : Lines) (made : TaskParts) → file_at read ≡ Ok (made, []) → Fits made
file_fits read made e = (grammar.found shape_of IsSpelled main_at file_rows Fits exact_file Blank is_blank read made [] e).fits

pub refused_at : (read shown lines : Lines) (o : Offence Shape) → read ≡ shown → shown ≡ lines → file_at read ≡ Err o
    → Offends IsFileOf lines (length shown - o.left + 1) × Wants (take ((length shown - o.left + 1) - 1) lines)
    o.wanted
refused_at read shown lines o same is e =
    let at = grammar.offends shape_of IsSpelled main_at file_rows Fits exact_file Blank is_blank read o
    (grammar.stops shape_of IsSpelled main_at file_rows Fits exact_file Blank is_blank read o e) in
    subst (λ (l : Lines). Offends IsFileOf l (length shown - o.left + 1) × Wants (take ((length shown - o.left + 1) - 1) l) o.wanted) (same ∙ is)
    (subst (λ (l : Lines). Offends IsFileOf read (length l - o.left + 1) × Wants (take ((length l - o.left + 1) - 1) read) o.wanted) same at)

pub left_within : (read shown : Lines) (o : Offence Shape) → read ≡ shown → file_at read ≡ Err o → o.left ≤ length shown
left_within read shown o same e =
    subst (λ (l : Lines). o.left ≤ length l) same (grammar.left_within shape_of IsSpelled main_at file_rows Fits
    exact_file Blank is_blank read o (grammar.stops shape_of IsSpelled main_at file_rows Fits exact_file Blank
    is_blank read o e))

-- the lines of a file are those of one task alone
pub one_task : (lines : Lines) (one other : TaskParts) → IsFileOf lines one → IsFileOf lines other → one ≡ other
one_task = grammar.one_value shape_of IsSpelled main_at file_rows Fits exact_file Blank is_blank

-- The sections of facts, groups and values are read exactly.
use Rattle.std.proofs.Common.{◌≡◌, ℕ, zero, suc, ◌+◌, ◌-◌, ◌≤◌, ◌<◌, true, false, cond, if◌then◌else◌, eqb, nat_lt, List, [], ◌∷◌, length, Option, Some, None, IfSome, IsSomeAnd, slice_get, refl, subst, arith, codes}
use Rattle.std.proofs.lemmas.Option.{cond_some}
use Rattle.std.proofs.lemmas.List.Elements.{All-nil, All-cons, All-head, All-tail}
use Rattle.std.proofs.lemmas.Bool.Decides.{nat_tests}
use Rattle.std.specs.Option.{option_and_then, option_map_or}
use Rattle.std.specs.List.{flat_map, All}
use Rattle.symk_task.specs.declared.parts.Fact.{Fact}
use Rattle.symk_task.specs.declared.parts.Variable.{Variable}
use Rattle.symk_task.specs.Variables.{range}
use Rattle.symk_task.specs.Fits.{InRange, AreFacts}
use Rattle.sas_reader.specs.declared.fault.Shape.{Shape}
use Rattle.sas_reader.specs.declared.fault.Shape.TheVariants as shape
use Rattle.line_grammar.specs.Reading.{Reading, counted_at}
use Rattle.line_grammar.proofs.Exact as grammar
use Rattle.line_grammar.proofs.Joining as joining
use Rattle.sas_reader.specs.Numbers.{two_numbers}
use Rattle.sas_reader.specs.Rows.{Row, one_number, numbers, shape_of, IsSpelled}
use Rattle.sas_reader.specs.Format.{fact_numbers, fact_rows, counted_rows, group_rows, value_rows, state_rows, goal_rows}
use Rattle.sas_reader.specs.Reading.{number_that, count_to, kept, in_range, fact_in, fact_at, most_facts, facts_at, group_at, groups_at, range_at, initial_value_at, next_place, initial_at, state_at, goal_at}
use Rattle.sas_reader.proofs.Lines.{RowIs, picked_are, number_is, count_is}
use Rattle.sas_reader.proofs.Sections.{Exact, FitFrom, after_word, before_word}

-- each variable has a value, and not too many
pub record Good (variables : List Variable) : Type 0 where
  pub few : length variables ≤ 65536
  pub some : All (λ v. 1 ≤ range v) variables
  pub small : All (λ v. range v ≤ 65536) variables
  pub derived : All (λ v. IfSome v.layer (λ _. range v ≡ 2)) variables

-- what fits one by one fits all
pub all_fit : {X : Type 0} (P : X → Type 0) (xs : List X) → FitFrom {T = Unit {0}} (λ _ x. P x) kept (tt {0}) xs → All P xs
all_fit P [] f = All-nil P
all_fit P (x ∷ xs) f = All-cons P x xs f.0 (all_fit P xs f.1)

pub fit_all : {X : Type 0} (P : X → Type 0) (xs : List X) → All P xs → FitFrom {T = Unit {0}} (λ _ x. P x) kept (tt {0}) xs
fit_all P [] f = tt
fit_all P (x ∷ xs) f = (All-head P x xs f, fit_all P xs (All-tail P x xs f))

-- so many, each of which fits
pub exact_list : {X : Type 0} (item : Unit {0} → Reading Shape X) (rows : X → List Row) (P : X → Type 0) (most : ℕ)
    (I : Type 0) → ((u : Unit {0}) → I → Exact (item u) rows P) → (1 ≤ most → I)
    → Exact (counted_at shape.Count (count_to most) item kept tt) (counted_rows rows) (λ xs. (length xs ≤ most) × All P xs)
exact_list {X} item rows P most I each some =
    grammar.exact_as shape_of IsSpelled (counted_at shape.Count (count_to most) item kept tt) (counted_rows rows)
    (counted_rows rows) (λ xs. (length xs ≤ most) × FitFrom {T = Unit {0}} (λ _ x. P x) kept (tt {0}) xs)
    (λ xs. (length xs ≤ most) × All P xs)
    (joining.exact_counted shape_of IsSpelled item kept rows (λ _ x. P x) (λ _. I) each (λ _ _ i _. i) shape.Count
    (count_to most) (one_number shape.Count) (λ n. n ≤ most) tt (count_is shape.Count most)
    (λ n le one. some (omega arith)))
    (λ xs f. ((f.0, all_fit P xs f.1), refl)) (λ xs f. (f.0, fit_all P xs f.1))

-- facts

in_range_is : (o : Option Variable) (val : ℕ) → option_map_or (λ v. nat_lt val (range v)) o false ≡ true → IsSomeAnd o (λ v. val < range v)
in_range_is None val e = absurd (let b : false ≡ true = e in cc)
in_range_is (Some v) val e = (let lt : val < range v = grind (arith, nat_tests) in lt)

is_in_range : (o : Option Variable) (val : ℕ) → IsSomeAnd o (λ v. val < range v) → option_map_or (λ v. nat_lt val (range v)) o false ≡ true
is_in_range None val h = absurd h
is_in_range (Some v) val h = (let lt : val < range v = h in grind (arith, nat_tests))

pub range_passes : (variables : List Variable) (var val : ℕ) → in_range variables var val ≡ true → InRange variables (record { var = var; val = val })
range_passes variables var val e = in_range_is (slice_get variables var) val e

pub passes_range : (variables : List Variable) (fact : Fact) → InRange variables fact → in_range variables fact.var fact.val ≡ true
passes_range variables fact h = is_in_range (slice_get variables fact.var) fact.val h

pub fact_taken : (variables : List Variable) (l : List (Option ℕ)) (x : Fact)
    → option_and_then (λ x. if in_range variables x.0 x.1 then Some
    (let f : Fact = record { var = x.0; val = x.1 } in f) else None) (two_numbers l) ≡ Some x
    → InRange variables x × (l ≡ fact_numbers x)
fact_taken variables [] x e = cc
fact_taken variables (None ∷ ns) x e = cc
fact_taken variables (Some a ∷ []) x e = cc
fact_taken variables (Some a ∷ None ∷ ns) x e = cc
fact_taken variables (Some a ∷ Some b ∷ []) x e =
    let k = cond_some (in_range variables a b) (let f : Fact = record { var = a; val = b } in f) x e in
    subst (λ (z : Fact). InRange variables z × (let l : List (Option ℕ) = Some a ∷ Some b ∷ [] in l ≡ fact_numbers z))
    k.1 (range_passes variables a b k.0, refl)
fact_taken variables (Some a ∷ Some b ∷ c ∷ ns) x e = cc

first_in_range : (variables : List Variable) → 1 ≤ length variables → Good variables → InRange variables (record { var = 0; val = 0 })
first_in_range [] one g = absurd (omega arith)
first_in_range (v ∷ variables) one g = (let some : 1 ≤ range v = All-head (λ v. 1 ≤ range v) v variables g.some in (let lt : 0 < range v = omega arith in lt))

fact_is : (variables : List Variable) → 1 ≤ length variables → Good variables
    → RowIs shape.Fact (fact_in variables) (λ fact. numbers shape.Fact (fact_numbers fact)) (InRange variables)
fact_is variables one g =
    picked_are shape.Fact two_numbers (λ x. if in_range variables x.0 x.1 then Some
    (let f : Fact = record { var = x.0; val = x.1 } in f) else None) fact_numbers (InRange variables)
    (fact_taken variables) (λ x f. (let t = passes_range variables x f in rw t refl)) (record { var = 0; val = 0 })
    (first_in_range variables one g) (omega arith, (omega arith, tt))

most_some : (n : ℕ) → 1 ≤ cond (eqb n 0) 0 65536 → 1 ≤ n
most_some zero h = absurd (omega arith)
most_some (suc n) h = omega arith

most_few : (n k : ℕ) → k ≤ cond (eqb n 0) 0 65536 → k ≤ 65536
most_few zero k h = omega arith
most_few (suc n) k h = (let t : eqb (suc n) 0 ≡ false = grind (arith, nat_tests) in rw t at h)

none_in_range : (facts : List Fact) → All (InRange []) facts → length facts ≤ 0
none_in_range [] h = omega arith
none_in_range (f ∷ facts) h = absurd (All-head (InRange []) f facts h)

few_most : (variables : List Variable) (facts : List Fact) → length facts ≤ 65536 → All (InRange variables) facts → length facts ≤ most_facts variables
few_most [] facts le h = none_in_range facts h
few_most (v ∷ variables) facts le h = (let one : length (v ∷ variables) ≡ length variables + 1 = omega arith in
    let t : eqb (length (v ∷ variables)) 0 ≡ false = grind (arith, nat_tests) in rw t le)

pub exact_facts : (variables : List Variable) → Good variables → Exact (facts_at variables) (counted_rows fact_rows) (AreFacts variables)
exact_facts variables g =
    grammar.exact_as shape_of IsSpelled (facts_at variables) (counted_rows fact_rows) (counted_rows fact_rows)
    (λ xs. (length xs ≤ most_facts variables) × All (InRange variables) xs) (AreFacts variables)
    (exact_list (fact_at variables) fact_rows (InRange variables) (most_facts variables) (1 ≤ length variables)
    (λ _ one. grammar.exact_row shape_of IsSpelled shape.Fact (fact_in variables)
    (λ fact. numbers shape.Fact (fact_numbers fact)) (InRange variables) (fact_is variables one g))
    (most_some (length variables)))
    (λ xs f. ((most_few (length variables) (length xs) f.0, f.1), refl)) (λ xs f. (few_most variables xs f.0 f.1, f.1))

-- groups and the goal

pub exact_group : (variables : List Variable) → Good variables → (u : Unit {0}) → Exact (group_at variables u) group_rows (AreFacts variables)
unfolding group_at
exact_group variables g u = after_word shape.BeginMutex (codes "begin_mutex_group") _ _ (AreFacts variables)
    (before_word shape.EndMutex (codes "end_mutex_group") (facts_at variables) _ (AreFacts variables)
    (exact_facts variables g))

pub exact_groups : (variables : List Variable) → Good variables
    → Exact (groups_at variables) (counted_rows group_rows)
    (λ groups. (length groups ≤ 1000000) × All (AreFacts variables) groups)
exact_groups variables g = exact_list (group_at variables) group_rows (AreFacts variables) 1000000 (Unit {0}) (λ u _. exact_group variables g u) (λ _. tt)

pub exact_goal : (variables : List Variable) → Good variables → Exact (goal_at variables) goal_rows (AreFacts variables)
unfolding goal_at
exact_goal variables g = after_word shape.BeginGoal (codes "begin_goal") _ _ (AreFacts variables)
    (before_word shape.EndGoal (codes "end_goal") (facts_at variables) _ (AreFacts variables)
    (exact_facts variables g))

-- values

range_some : (variables : List Variable) (var : ℕ) → All (λ v. 1 ≤ range v) variables → 1 ≤ range_at variables var
range_some [] var h = omega arith
range_some (v ∷ variables) zero h = All-head (λ v. 1 ≤ range v) v variables h
range_some (v ∷ variables) (suc var) h = range_some variables var (All-tail (λ v. 1 ≤ range v) v variables h)

value_is : (variables : List Variable) → Good variables → (var : ℕ)
    → RowIs shape.Value (number_that (λ n. nat_lt n (range_at variables var))) (one_number shape.Value)
    (λ n. n < range_at variables var)
value_is variables g var = number_is shape.Value (λ n. nat_lt n (range_at variables var))
    (λ n. n < range_at variables var) (λ n e. grind (arith, nat_tests)) (λ n lt. grind (arith, nat_tests)) 0
    (let s = range_some variables var g.some in omega arith) (omega arith)

abbrev pub ValuesFit : List Variable → List ℕ → Type 0
ValuesFit variables values = (length values ≡ length variables) × FitFrom (λ var n. n < range_at variables var) next_place 0 values

exact_initial : (variables : List Variable) → Good variables → Exact (initial_at variables) (flat_map value_rows) (ValuesFit variables)
exact_initial variables g =
    grammar.exact_many shape_of IsSpelled (initial_value_at variables) next_place value_rows (λ var n. n < range_at variables var) (λ _. Unit {0})
    (λ var _. grammar.exact_row shape_of IsSpelled shape.Value (number_that (λ n. nat_lt n (range_at variables var)))
    (one_number shape.Value) (λ n. n < range_at variables var) (value_is variables g var))
    (λ _ _ _ _. tt) (length variables) 0 tt

pub exact_state : (variables : List Variable) → Good variables → Exact (state_at variables) state_rows (ValuesFit variables)
unfolding state_at
exact_state variables g = after_word shape.BeginState (codes "begin_state") _ _ (ValuesFit variables)
    (before_word shape.EndState (codes "end_state") (initial_at variables) _ (ValuesFit variables)
    (exact_initial variables g))

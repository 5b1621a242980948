-- The section of the operators is read exactly.
use Rattle.std.proofs.Common.{◌≡◌, ℕ, zero, suc, ◌+◌, ◌-◌, ◌≤◌, ◌<◌, Bool, true, false, cond, nat_le, ◌&&◌, ◌||◌, List, [], ◌∷◌, ◌++◌, length, Option, Some, None, IfSome, IsSomeAnd, slice_get, is_none, refl, sym, ap, subst, ◌∙◌, arith, codes}
use Rattle.std.proofs.lemmas.Option.{cond_some}
use Rattle.std.proofs.lemmas.List.Elements.{All-nil, All-cons, All-head, All-tail}
use Rattle.std.proofs.lemmas.Bool.Decides.{nat_tests}
use Rattle.std.specs.Option.{option_map, option_and_then, option_map_or}
use Rattle.std.specs.List.{flat_map, list_any, All}
use Rattle.symk_text.specs.Lines.{IsLine}
use Rattle.symk_task.specs.declared.parts.Fact.{Fact}
use Rattle.symk_task.specs.declared.parts.Variable.{Variable}
use Rattle.symk_task.specs.declared.parts.Effect.{Effect}
use Rattle.symk_task.specs.declared.parts.Operator.{Operator}
use Rattle.symk_task.specs.Variables.{range, is_base}
use Rattle.symk_task.specs.Fits.{InRange, AreFacts, FitsEffect, FitsOperator}
use Rattle.sas_reader.specs.declared.fault.Shape.{Shape}
use Rattle.sas_reader.specs.declared.fault.Shape.TheVariants as shape
use Rattle.line_grammar.specs.Reading.{Reading, both_at, before_at}
use Rattle.line_grammar.proofs.Exact as grammar
use Rattle.line_grammar.proofs.Joining as joining
use Rattle.line_grammar.proofs.Joining.{Always}
use Rattle.sas_reader.specs.Rows.{word, name, one_number, numbers, shape_of, IsSpelled}
use Rattle.sas_reader.specs.Format.{fact_numbers, fact_rows, counted_rows, name_rows, effect_numbers, effect_rows, operator_rows}
use Rattle.sas_reader.specs.Reading.{exactly, number_that, in_range, name_at, facts_at, fact_first, with_fact, conds_of, counted_conds, is_base_at, allows, ending_of, effect_with, effect_after, effect_of, effect_in, effect_at, most_effects, effects_at, operator_cost_at, operator_of, operator_at, operators_at}
use Rattle.sas_reader.proofs.Lines.{RowIs, numbers_are, number_is}
use Rattle.sas_reader.proofs.Sections.{Exact, after_word, before_word, exact_name}
use Rattle.sas_reader.proofs.FactSections.{Good, exact_list, exact_facts, range_passes, passes_range}

abbrev Conds : Type 0
Conds = List Fact × List (Option ℕ)

-- what reading n conditions took
record TakenConds (variables : List Variable) (n : ℕ) (ns : List (Option ℕ)) (x : Conds) : Type 0 where
  whole : ns ≡ flat_map fact_numbers x.0 ++ x.1
  each : length x.0 ≡ n
  fit : All (InRange variables) x.0

record TakenFact (variables : List Variable) (ns : List (Option ℕ)) (x : Fact × List (Option ℕ)) : Type 0 where
  whole : ns ≡ fact_numbers x.0 ++ x.1
  fits : InRange variables x.0

fact_taken : (variables : List Variable) (ns : List (Option ℕ)) (x : Fact × List (Option ℕ)) → fact_first variables ns ≡ Some x → TakenFact variables ns x
fact_taken variables [] x e = cc
fact_taken variables (None ∷ ns) x e = cc
fact_taken variables (Some a ∷ []) x e = cc
fact_taken variables (Some a ∷ None ∷ ns) x e = cc
fact_taken variables (Some a ∷ Some b ∷ ns) x e =
    let made : Fact × List (Option ℕ) = (record { var = a; val = b }, ns) in
    let k = cond_some (in_range variables a b) made x e in
    subst (TakenFact variables (Some a ∷ Some b ∷ ns)) k.1 (record { whole = refl; fits = range_passes variables a b k.0 })

conds_taken : (variables : List Variable) (n : ℕ) (ns : List (Option ℕ)) (x : Conds) → conds_of variables n ns ≡ Some x → TakenConds variables n ns x
unfolding conds_of
conds_taken variables zero ns x e = (let same : ([], ns) ≡ x = cc in subst (TakenConds variables 0 ns) same
    (record { whole = refl; each = refl; fit = All-nil (InRange variables) }))
conds_taken variables (suc n) ns x e = by_first (fact_first variables ns) refl e (conds_taken variables n)
  where
    by_rest : (f : Fact × List (Option ℕ)) (o : Option Conds)
        → ((y : Conds) → o ≡ Some y → TakenConds variables n f.1 y) → TakenFact variables ns f
        → with_fact f.0 o ≡ Some x → TakenConds variables (suc n) ns x
    by_rest f None ih t e = cc
    by_rest f (Some y) ih t e =
        let k = ih y refl in
        let same : (f.0 ∷ y.0, y.1) ≡ x = cc in
        subst (TakenConds variables (suc n) ns) same (record {
          whole = t.whole ∙ ap (λ (z : List (Option ℕ)). fact_numbers f.0 ++ z) k.whole;
          each = ap suc k.each;
          fit = All-cons (InRange variables) f.0 y.0 t.fits k.fit;
        })

    by_first : (o : Option (Fact × List (Option ℕ))) → fact_first variables ns ≡ o
        → option_and_then (λ x. with_fact x.0 (conds_of variables n x.1)) o ≡ Some x
        → ((ns : List (Option ℕ)) (y : Conds) → conds_of variables n ns ≡ Some y → TakenConds variables n ns y)
        → TakenConds variables (suc n) ns x
    by_first None t e ih = cc
    by_first (Some f) t e ih = by_rest f (conds_of variables n f.1) (ih f.1) (fact_taken variables ns f t) e

conds_again : (variables : List Variable) (conds : List Fact) (rest : List (Option ℕ)) → All (InRange variables) conds
    → conds_of variables (length conds) (flat_map fact_numbers conds ++ rest) ≡ Some (conds, rest)
unfolding conds_of
conds_again variables [] rest h = refl
conds_again variables (f ∷ conds) rest h = rw (
  passes_range variables f (All-head (InRange variables) f conds h),
  conds_again variables conds rest (All-tail (InRange variables) f conds h),
) refl

and_parts : (a b : Bool) → (a && b) ≡ true → (a ≡ true) × (b ≡ true)
and_parts true b e = (refl, e)
and_parts false b e = cc

-- the end of the line
abbrev On : List Variable → ℕ → ℕ → Type 0
On variables var post = IsSomeAnd (slice_get variables var) (λ v. (v.layer ≡ None) × (post < range v))

on_base : (o : Option Variable) (post : ℕ) → option_map_or is_base o false ≡ true → IsSomeAnd o (λ v. post < range v)
    → IsSomeAnd o (λ v. (v.layer ≡ None) × (post < range v))
on_base None post e h = absurd h
on_base (Some v) post e h = (no_layer v.layer e, h)
  where
    no_layer : (layer : Option ℕ) → is_none layer ≡ true → layer ≡ None
    no_layer None e = refl
    no_layer (Some n) e = cc

base_on : (o : Option Variable) (post : ℕ) → IsSomeAnd o (λ v. (v.layer ≡ None) × (post < range v))
    → (option_map_or is_base o false ≡ true) × IsSomeAnd o (λ v. post < range v)
base_on None post h = absurd h
base_on (Some v) post h = (ap is_none h.0, h.1)

pre_is : (variables : List Variable) (var : ℕ) (pre : Option ℕ) → allows variables var pre ≡ true
    → IfSome pre (λ val. InRange variables (record { var = var; val = val }))
pre_is variables var None e = tt
pre_is variables var (Some val) e = range_passes variables var val e

is_pre : (variables : List Variable) (var : ℕ) (pre : Option ℕ)
    → IfSome pre (λ val. InRange variables (record { var = var; val = val })) → allows variables var pre ≡ true
is_pre variables var None h = refl
is_pre variables var (Some val) h = passes_range variables (record { var = var; val = val }) h

abbrev Ending : Type 0
Ending = ℕ × Option ℕ × ℕ

record TakenEnding (variables : List Variable) (ns : List (Option ℕ)) (x : Ending) : Type 0 where
  whole : ns ≡ Some x.0 ∷ x.1 ∷ Some x.2 ∷ []
  on : On variables x.0 x.2
  pre : IfSome x.1 (λ val. InRange variables (record { var = x.0; val = val }))

ending_taken : (variables : List Variable) (ns : List (Option ℕ)) (x : Ending) → ending_of variables ns ≡ Some x → TakenEnding variables ns x
ending_taken variables (Some var ∷ pre ∷ Some post ∷ []) x e =
    let made : Ending = (var, pre, post) in
    let k = cond_some (is_base_at variables var && allows variables var pre && in_range variables var post) made x e in
    let tests = and_parts (is_base_at variables var && allows variables var pre) (in_range variables var post) k.0 in
    let two = and_parts (is_base_at variables var) (allows variables var pre) tests.0 in
    subst (TakenEnding variables (Some var ∷ pre ∷ Some post ∷ [])) k.1
    (record {
      whole = refl;
      on = on_base (slice_get variables var) post two.0
          (range_passes variables var post tests.1);
      pre = pre_is variables var pre two.1;
    })
ending_taken variables _ x e = cc

-- what is taken is spelled so, and fits
record TakenCounted (variables : List Variable) (ns : List (Option ℕ)) (x : Conds) : Type 0 where
  whole : ns ≡ Some (length x.0) ∷ flat_map fact_numbers x.0 ++ x.1
  few : length x.0 ≤ 65536
  fit : All (InRange variables) x.0

counted_taken : (variables : List Variable) (ns : List (Option ℕ)) (x : Conds) → counted_conds variables ns ≡ Some x → TakenCounted variables ns x
counted_taken variables [] x e = cc
counted_taken variables (None ∷ ns) x e = cc
counted_taken variables (Some n ∷ ns) x e = by_test (nat_le n 65536) refl e
  where
    by_test : (t : Bool) → nat_le n 65536 ≡ t → cond t (conds_of variables n ns) None ≡ Some x → TakenCounted variables (Some n ∷ ns) x
    by_test true t e =
        let k = conds_taken variables n ns x e in
        let small : n ≤ 65536 = grind (arith, nat_tests) in
        record {
          whole = ap (λ (z : ℕ). Some z ∷ ns) (sym k.each) ∙ ap (λ (z : List (Option ℕ)). Some (length x.0) ∷ z) k.whole;
          few = subst (λ (z : ℕ). z ≤ 65536) (sym k.each) small;
          fit = k.fit;
        }
    by_test false t e = cc

effect_taken : (variables : List Variable) (ns : List (Option ℕ)) (e : Effect) → effect_of variables ns ≡ Some e
    → FitsEffect variables e × (ns ≡ effect_numbers e)
effect_taken variables ns e h = by_conds (counted_conds variables ns) refl h
  where
    by_end : (x : Conds) → TakenCounted variables ns x → (o : Option Ending) → ending_of variables x.1 ≡ o
        → option_map (effect_with x.0) o ≡ Some e → FitsEffect variables e × (ns ≡ effect_numbers e)
    by_end x c None t h = cc
    by_end x c (Some y) t h =
        let d = ending_taken variables x.1 y t in
        let same : effect_with x.0 y ≡ e = cc in
        subst (λ (z : Effect). FitsEffect variables z × (ns ≡ effect_numbers z)) same (
          record { conds = (c.few, c.fit); on = d.on; pre = d.pre },
          c.whole ∙ ap (λ (z : List (Option ℕ)). Some (length x.0) ∷ flat_map fact_numbers x.0 ++ z) d.whole,
        )

    by_conds : (o : Option Conds) → counted_conds variables ns ≡ o
        → option_and_then (effect_after variables) o ≡ Some e → FitsEffect variables e × (ns ≡ effect_numbers e)
    by_conds None t h = cc
    by_conds (Some x) t h = by_end x (counted_taken variables ns x t) (ending_of variables x.1) refl h

effect_again : (variables : List Variable) (e : Effect) → FitsEffect variables e → effect_of variables (effect_numbers e) ≡ Some e
effect_again variables e f =
    let few : nat_le (length e.conds) 65536 ≡ true = (let k = f.conds.0 in grind (arith, nat_tests)) in
    let b = base_on (slice_get variables e.var) e.post f.on in
    rw (
      few,
      conds_again variables e.conds (Some e.var ∷ e.pre ∷ Some e.post ∷ []) f.conds.1,
      b.0,
      is_pre variables
          e.var e.pre f.pre,
      passes_range variables (record { var = e.var; val = e.post }) b.1,
    ) refl

-- where there is a base variable, there is an effect
base_at : (variables : List Variable) → list_any is_base variables ≡ true → (var : ℕ) × (var < length variables)
    × IsSomeAnd (slice_get variables var) (λ v. v.layer ≡ None)
base_at [] e = cc
base_at (v ∷ variables) e = by_layer v.layer refl e (base_at variables)
  where
    by_layer : (layer : Option ℕ) → v.layer ≡ layer → (is_none layer || list_any is_base variables) ≡ true
        → (list_any is_base variables ≡ true → (var : ℕ) × (var < length variables)
        × IsSomeAnd (slice_get variables var) (λ v. v.layer ≡ None))
        → (var : ℕ) × (var < length (v ∷ variables)) × IsSomeAnd (slice_get (v ∷ variables) var) (λ v. v.layer ≡ None)
    by_layer None t e ih = (0, omega arith, t)
    by_layer (Some n) t e ih = (let k = ih e in (suc k.0, omega (arith, k.1), k.2))

some_on : (variables : List Variable) (var : ℕ) → All (λ v. 1 ≤ range v) variables
    → IsSomeAnd (slice_get variables var) (λ v. v.layer ≡ None) → On variables var 0
some_on [] var g h = absurd h
some_on (v ∷ variables) zero g h = (h, (let some : 1 ≤ range v = All-head (λ v. 1 ≤ range v) v variables g in omega arith))
some_on (v ∷ variables) (suc var) g h = some_on variables var (All-tail (λ v. 1 ≤ range v) v variables g) h

effect_is : (variables : List Variable) → list_any is_base variables ≡ true → Good variables
    → RowIs shape.Effect (effect_in variables) (λ e. numbers shape.Effect (effect_numbers e)) (FitsEffect variables)
effect_is variables base g =
    let b = base_at variables base in
    let few : length variables ≤ 65536 = g.few in
    numbers_are shape.Effect (effect_of variables) effect_numbers (FitsEffect variables) (effect_taken variables) (effect_again variables)
    (record { conds = []; var = b.0; pre = None; post = 0 })
    (record { conds = (omega arith, All-nil (InRange variables)); on = some_on variables b.0 g.some b.2; pre = tt })
    (omega arith, (let lt : b.0 < length variables = b.1 in omega arith, (tt, (omega arith, tt))))

most_base : (t : Bool) → 1 ≤ cond t 65536 0 → t ≡ true
most_base true h = refl
most_base false h = absurd (omega arith)

exact_effects : (variables : List Variable) → Good variables
    → Exact (effects_at variables (most_effects variables)) (counted_rows effect_rows)
    (λ es. (length es ≤ most_effects variables) × All (FitsEffect variables) es)
exact_effects variables g =
    exact_list (effect_at variables) effect_rows (FitsEffect variables) (most_effects variables) (list_any is_base variables ≡ true)
    (λ _ base. grammar.exact_row shape_of IsSpelled shape.Effect (effect_in variables)
    (λ e. numbers shape.Effect (effect_numbers e)) (FitsEffect variables) (effect_is variables base g))
    (most_base (list_any is_base variables))

exact_cost : Exact operator_cost_at (λ c. one_number shape.Cost c ∷ []) Always
exact_cost = grammar.exact_row shape_of IsSpelled shape.Cost (number_that (λ _. true)) (one_number shape.Cost) Always
    (number_is shape.Cost (λ _. true) Always (λ _ _. tt) (λ _ _. refl) 0 tt (omega arith))

-- an operator

abbrev OperatorFits : List Variable → List ℕ × (List Fact × (List Effect × ℕ)) → Type 0
OperatorFits variables x = IsLine x.0 × (AreFacts variables x.1.0
    × (((length x.1.1.0 ≤ most_effects variables) × All (FitsEffect variables) x.1.1.0) × Unit {0}))

abbrev tail_of : List Variable → Reading Shape (List Effect × ℕ)
tail_of variables = both_at (effects_at variables (most_effects variables)) (λ _. before_at operator_cost_at shape.EndOperator (exactly (codes "end_operator")))

exact_tail : (variables : List Variable) → Good variables → Exact (tail_of variables)
    (λ x. counted_rows effect_rows x.0 ++ (one_number shape.Cost x.1 ∷ word shape.EndOperator (codes "end_operator")
    ∷ [])) (λ x. ((length x.0 ≤ most_effects variables) × All (FitsEffect variables) x.0) × Unit {0})
exact_tail variables g =
    joining.exact_both shape_of IsSpelled (effects_at variables (most_effects variables))
    (λ _. before_at operator_cost_at shape.EndOperator (exactly (codes "end_operator")))
    (counted_rows effect_rows) (λ es. (length es ≤ most_effects variables) × All (FitsEffect variables) es)
    (λ _ c. one_number shape.Cost c ∷ word shape.EndOperator (codes "end_operator") ∷ []) (λ _ _. Unit {0})
    (exact_effects variables g) (λ _ _. before_word shape.EndOperator (codes "end_operator") operator_cost_at
    (λ c. one_number shape.Cost c ∷ []) Always exact_cost)

abbrev middle_of : List Variable → Reading Shape (List Fact × (List Effect × ℕ))
middle_of variables = both_at (facts_at variables) (λ _. tail_of variables)

exact_middle : (variables : List Variable) → Good variables → Exact (middle_of variables)
    (λ x. counted_rows fact_rows x.0 ++ (counted_rows effect_rows x.1.0
    ++ (one_number shape.Cost x.1.1 ∷ word shape.EndOperator (codes "end_operator") ∷ [])))
    (λ x. AreFacts variables x.0 × (((length x.1.0 ≤ most_effects variables) × All (FitsEffect variables) x.1.0)
    × Unit {0}))
exact_middle variables g =
    joining.exact_both shape_of IsSpelled (facts_at variables) (λ _. tail_of variables) (counted_rows fact_rows) (AreFacts variables)
    (λ _ x. counted_rows effect_rows x.0 ++ (one_number shape.Cost x.1 ∷ word shape.EndOperator (codes "end_operator")
    ∷ [])) (λ _ x. ((length x.0 ≤ most_effects variables) × All (FitsEffect variables) x.0) × Unit {0})
    (exact_facts variables g) (λ _ _. exact_tail variables g)

most_few : (t : Bool) (k : ℕ) → k ≤ cond t 65536 0 → k ≤ 65536
most_few true k h = h
most_few false k h = omega arith

or_parts : (a b : Bool) → (a || b) ≡ false → (a ≡ false) × (b ≡ false)
or_parts true b e = cc
or_parts false b e = (refl, e)

none_base : (variables : List Variable) (var : ℕ) → list_any is_base variables ≡ false → option_map_or is_base (slice_get variables var) false ≡ true → ⊥
none_base [] var t e = cc
none_base (v ∷ variables) zero t e = (let p = or_parts (is_base v) (list_any is_base variables) t in
    let a : is_base v ≡ false = p.0 in let b : is_base v ≡ true = e in cc)
none_base (v ∷ variables) (suc var) t e = none_base variables var (or_parts (is_base v) (list_any is_base variables) t).1 e

-- effects that fit are on base variables
effects_few : (variables : List Variable) (es : List Effect) (t : Bool) → list_any is_base variables ≡ t
    → length es ≤ 65536 → All (FitsEffect variables) es → length es ≤ cond t 65536 0
effects_few variables es true t le h = le
effects_few variables [] false t le h = omega arith
effects_few variables (e ∷ es) false t le h = absurd (none_base variables e.var t
    (base_on (slice_get variables e.var) e.post (All-head (FitsEffect variables) e es h).on).0)

abbrev parts_of : Operator → List ℕ × (List Fact × (List Effect × ℕ))
parts_of o = (o.name, (o.prevail, (o.effects, o.cost)))

pub exact_operator : (variables : List Variable) → Good variables → (u : Unit {0})
    → Exact (operator_at variables (most_effects variables) u) operator_rows (FitsOperator variables)
unfolding operator_at
exact_operator variables g u =
    grammar.exact_as shape_of IsSpelled (operator_at variables (most_effects variables) u) operator_rows operator_rows
    (λ o. OperatorFits variables (parts_of o)) (FitsOperator variables)
    (joining.exact_made shape_of IsSpelled operator_of parts_of (λ a. refl) (λ o. refl) _ _ (OperatorFits variables)
    (after_word shape.BeginOperator (codes "begin_operator") _ _ (OperatorFits variables)
    (joining.exact_both shape_of IsSpelled (name_at tt) (λ _. middle_of variables) name_rows IsLine
    (λ _ x. counted_rows fact_rows x.0 ++ (counted_rows effect_rows x.1.0 ++
    (one_number shape.Cost x.1.1 ∷ word shape.EndOperator (codes "end_operator") ∷ [])))
    (λ _ x. AreFacts variables x.0 × (((length x.1.0 ≤ most_effects variables) × All (FitsEffect variables) x.1.0) × Unit {0}))
    exact_name (λ _ _. exact_middle variables g))))
    (λ o f. (
      record {
        name = record { line = f.0 };
        prevail = f.1.0;
        effects =
            most_few (list_any is_base variables) (length o.effects) f.1.1.0.0;
        each = f.1.1.0.1;
      },
      refl,
    ))
    (λ o f. (f.name.line, (f.prevail, ((effects_few variables o.effects (list_any is_base variables) refl f.effects f.each, f.each), tt))))

pub exact_operators : (variables : List Variable) → Good variables
    → Exact (operators_at variables) (counted_rows operator_rows)
    (λ os. (length os ≤ 1000000) × All (FitsOperator variables) os)
exact_operators variables g = exact_list (operator_at variables (most_effects variables)) operator_rows
    (FitsOperator variables) 1000000 (Unit {0}) (λ u _. exact_operator variables g u) (λ _. tt)

-- The section of the rules is read exactly.
use Rattle.std.proofs.Common.{◌≡◌, ℕ, zero, suc, ◌-◌, ◌≤◌, ◌<◌, ◌⊎◌, inl, inr, Bool, true, false, cond, eqb, nat_lt, ◌&&◌, ◌||◌, List, [], ◌∷◌, length, get_or, Option, Some, None, IsSomeAnd, slice_get, is_none, refl, ap, subst, arith, codes}
use Rattle.std.proofs.lemmas.Option.{cond_some}
use Rattle.std.proofs.lemmas.List.Elements.{All-nil, All-cons, All-head, All-tail}
use Rattle.std.proofs.lemmas.Bool.Decides.{nat_tests}
use Rattle.std.specs.Option.{option_and_then, option_map_or}
use Rattle.std.specs.List.{list_all, All}
use Rattle.symk_task.specs.declared.parts.Fact.{Fact}
use Rattle.symk_task.specs.declared.parts.Variable.{Variable}
use Rattle.symk_task.specs.declared.parts.Rule.{Rule}
use Rattle.symk_task.specs.Variables.{is_base}
use Rattle.symk_task.specs.Fits.{AreFacts}
use Rattle.sas_reader.specs.declared.fault.Shape.TheVariants as shape
use Rattle.line_grammar.specs.Reading.{row_at, before_at}
use Rattle.line_grammar.proofs.Exact as grammar
use Rattle.line_grammar.proofs.Joining as joining
use Rattle.sas_reader.specs.Numbers.{three_numbers}
use Rattle.sas_reader.specs.Rows.{word, numbers, shape_of, IsSpelled}
use Rattle.sas_reader.specs.Format.{fact_rows, counted_rows, rule_rows}
use Rattle.sas_reader.specs.Reading.{exactly, kept, facts_at, may_stand, heads, head_fits, head_in, rule_of, rule_at, most_rules, rules_at}
use Rattle.sas_reader.proofs.Lines.{RowIs, picked_are}
use Rattle.sas_reader.proofs.Sections.{Exact, after_word, before_word}
use Rattle.sas_reader.proofs.FactSections.{Good, exact_list, exact_facts}

-- the variable has this layer
abbrev pub Layered : List Variable → ℕ → ℕ → Type 0
Layered variables var layer = IsSomeAnd (slice_get variables var) (λ v. v.layer ≡ Some layer)

abbrev pub Based : List Variable → ℕ → Type 0
Based variables var = IsSomeAnd (slice_get variables var) (λ v. v.layer ≡ None)

abbrev pub Stands : List Variable → List ℕ → ℕ → Fact → Type 0
Stands variables initial layer fact = Based variables fact.var
    ⊎ ((below : ℕ) × Layered variables fact.var below × ((below < layer)
    ⊎ ((below ≡ layer) × (fact.val ≡ 1 - get_or initial fact.var 0))))

-- the derived variables' values in the state are 0 or 1
abbrev pub Defaults : List Variable → List ℕ → Type 0
Defaults variables initial = (var layer : ℕ) → Layered variables var layer → get_or initial var 0 < 2

-- what a rule may have as its head and conditions
pub record RuleFits (variables : List Variable) (initial : List ℕ) (conds : List Fact) (var value : ℕ) : Type 0 where
  pub layer : ℕ
  pub on : Layered variables var layer
  pub new : value < 2
  pub kept : value ≡ 1 - get_or initial var 0 → All (Stands variables initial layer) conds

and_parts : (a b : Bool) → (a && b) ≡ true → (a ≡ true) × (b ≡ true)
and_parts true b e = (refl, e)
and_parts false b e = cc

or_cases : (a b : Bool) → (a || b) ≡ true → (a ≡ true) ⊎ (b ≡ true)
or_cases true b e = inl refl
or_cases false b e = inr e

or_right : (a b : Bool) → b ≡ true → (a || b) ≡ true
or_right true b e = refl
or_right false b e = e

abbrev stands_at : List ℕ → ℕ → Fact → Variable → Bool
stands_at initial layer fact v = option_map_or (λ below. nat_lt below layer || (eqb below layer && eqb fact.val (1 - get_or initial fact.var 0))) v.layer true

layer_stands : (initial : List ℕ) (layer : ℕ) (fact : Fact) (own : Option ℕ)
    → option_map_or (λ below. nat_lt below layer || (eqb below layer && eqb fact.val
    (1 - get_or initial fact.var 0))) own true ≡ true
    → (own ≡ None) ⊎ ((below : ℕ) × (own ≡ Some below) × ((below < layer) ⊎ ((below ≡ layer) × (fact.val ≡ 1 - get_or initial fact.var 0))))
layer_stands initial layer fact None e = inl refl
layer_stands initial layer fact (Some below) e = inr (
  below,
  refl,
  elim (or_cases (nat_lt below layer) (eqb below layer && eqb fact.val (1 - get_or initial fact.var 0)) e) [
    | inl t ↦ inl (grind (arith, nat_tests))
    | inr t ↦ (let p = and_parts (eqb below layer) (eqb fact.val (1 - get_or initial fact.var 0)) t in inr
        ((let a = p.0 in grind (arith, nat_tests)), (let b = p.1 in grind (arith, nat_tests))))
  ],
)

pub may_stands : (variables : List Variable) (initial : List ℕ) (layer : ℕ) (fact : Fact)
    → may_stand variables initial layer fact ≡ true → Stands variables initial layer fact
may_stands variables initial layer fact e = by_variable (slice_get variables fact.var) e
  where
    by_variable : (o : Option Variable) → option_map_or (stands_at initial layer fact) o false ≡ true
        → IsSomeAnd o (λ v. v.layer ≡ None) ⊎ ((below : ℕ) × IsSomeAnd o (λ v. v.layer ≡ Some below)
        × ((below < layer) ⊎ ((below ≡ layer) × (fact.val ≡ 1 - get_or initial fact.var 0))))
    by_variable None e = cc
    by_variable (Some v) e = layer_stands initial layer fact v.layer e

pub stands_may : (variables : List Variable) (initial : List ℕ) (layer : ℕ) (fact : Fact)
    → Stands variables initial layer fact → may_stand variables initial layer fact ≡ true
stands_may variables initial layer fact h = by_variable (slice_get variables fact.var) h
  where
    by_case : (below : ℕ) → (below < layer) ⊎ ((below ≡ layer) × (fact.val ≡ 1 - get_or initial fact.var 0))
        → (nat_lt below layer || (eqb below layer && eqb fact.val (1 - get_or initial fact.var 0))) ≡ true
    by_case below (inl lt) = (let t : nat_lt below layer ≡ true = grind (arith, nat_tests) in rw t refl)
    by_case below (inr (same, val)) = (let t : eqb below layer ≡ true = grind (arith, nat_tests) in
        let u : eqb fact.val (1 - get_or initial fact.var 0) ≡ true =
        grind (arith, nat_tests) in or_right (nat_lt below layer)
        (eqb below layer && eqb fact.val (1 - get_or initial fact.var 0)) (rw (t, u) refl))

    by_variable : (o : Option Variable) → IsSomeAnd o (λ v. v.layer ≡ None)
        ⊎ ((below : ℕ) × IsSomeAnd o (λ v. v.layer ≡ Some below)
        × ((below < layer) ⊎ ((below ≡ layer) × (fact.val ≡ 1 - get_or initial fact.var 0))))
        → option_map_or (stands_at initial layer fact) o false ≡ true
    by_variable None (inl h) = absurd h
    by_variable None (inr h) = absurd h.1
    by_variable (Some v) (inl h) = rw h refl
    by_variable (Some v) (inr h) = rw h.1 (by_case h.0 h.2)

all_stand : (variables : List Variable) (initial : List ℕ) (layer : ℕ) (conds : List Fact)
    → list_all (may_stand variables initial layer) conds ≡ true → All (Stands variables initial layer) conds
all_stand variables initial layer [] e = All-nil (Stands variables initial layer)
all_stand variables initial layer (f ∷ conds) e =
    let p = and_parts (may_stand variables initial layer f) (list_all (may_stand variables initial layer) conds) e in
    All-cons (Stands variables initial layer) f conds (may_stands variables initial layer f p.0) (all_stand variables initial layer conds p.1)

stand_all : (variables : List Variable) (initial : List ℕ) (layer : ℕ) (conds : List Fact)
    → All (Stands variables initial layer) conds → list_all (may_stand variables initial layer) conds ≡ true
stand_all variables initial layer [] h = refl
stand_all variables initial layer (f ∷ conds) h = rw (
  stands_may variables initial layer f
      (All-head (Stands variables initial layer) f conds h),
  stand_all variables initial layer conds
      (All-tail (Stands variables initial layer) f conds h),
) refl

-- heads

never_other : (n d : ℕ) → eqb n d ≡ true → n ≡ 1 - d → ⊥
never_other n d e h = (let same : n ≡ d = grind (arith, nat_tests) in omega arith)

heads_fit : (variables : List Variable) (initial : List ℕ) (conds : List Fact) (layer var old new : ℕ) → heads variables initial conds layer var old new ≡ true
    → (old ≡ 1 - new) × (new < 2) × (new ≡ 1 - get_or initial var 0 → All (Stands variables initial layer) conds)
heads_fit variables initial conds layer var old new e =
    let outer = and_parts (nat_lt new 2 && eqb old (1 - new)) (eqb new (get_or initial var 0) || list_all (may_stand variables initial layer) conds) e in
    let inner = and_parts (nat_lt new 2) (eqb old (1 - new)) outer.0 in (
      (let t = inner.1 in grind (arith, nat_tests)),
      (let t = inner.0 in grind (arith, nat_tests)),
      λ other. elim (or_cases (eqb new (get_or initial var 0)) (list_all (may_stand variables initial layer) conds) outer.1) [
        | inl t ↦ absurd (never_other new (get_or initial var 0) t other)
        | inr t ↦ all_stand variables initial layer conds t
      ],
    )

fit_heads : (variables : List Variable) (initial : List ℕ) (conds : List Fact) (layer var new : ℕ)
    → get_or initial var 0 < 2 → new < 2 → (new ≡ 1 - get_or initial var 0 → All (Stands variables initial layer)
    conds)
    → heads variables initial conds layer var (1 - new) new ≡ true
fit_heads variables initial conds layer var new small lt kept =
    let t : nat_lt new 2 ≡ true = grind (arith, nat_tests) in
    let u : eqb (1 - new) (1 - new) ≡ true = grind (arith, nat_tests) in
    rw (t, u) (by_test (eqb new (get_or initial var 0)) refl)
  where
    by_test : (b : Bool) → eqb new (get_or initial var 0) ≡ b → (b || list_all (may_stand variables initial layer) conds) ≡ true
    by_test true e = refl
    by_test false e = stand_all variables initial layer conds (kept (let apart : new ≡ get_or initial var 0 → ⊥ = grind (arith, nat_tests) in omega arith))

head_is_fit : (variables : List Variable) (initial : List ℕ) (conds : List Fact) (var old new : ℕ)
    → head_fits variables initial conds var old new ≡ true
    → RuleFits variables initial conds var new × (old ≡ 1 - new)
head_is_fit variables initial conds var old new e =
    let k = by_variable (slice_get variables var) e in
    let h = heads_fit variables initial conds k.0 var old new k.2 in
    (record { layer = k.0; on = k.1; new = h.1; kept = h.2 }, h.0)
  where
    by_layer : (own : Option ℕ) → option_map_or (λ layer. heads variables initial conds layer var old new) own false
        ≡ true → (layer : ℕ) × (own ≡ Some layer) × (heads variables initial conds layer var old new ≡ true)
    by_layer None e = cc
    by_layer (Some layer) e = (layer, refl, e)

    by_variable : (o : Option Variable) → option_map_or (λ v. option_map_or
        (λ layer. heads variables initial conds layer var old new) v.layer false) o false ≡ true
        → (layer : ℕ) × IsSomeAnd o (λ v. v.layer ≡ Some layer) × (heads variables initial conds layer var old new ≡ true)
    by_variable None e = cc
    by_variable (Some v) e = by_layer v.layer e

fit_is_head : (variables : List Variable) (initial : List ℕ) (conds : List Fact) (var new : ℕ)
    → Defaults variables initial → RuleFits variables initial conds var new
    → head_fits variables initial conds var (1 - new) new ≡ true
fit_is_head variables initial conds var new d f = by_variable (slice_get variables var) f.on
    (fit_heads variables initial conds f.layer var new (d var f.layer f.on) f.new f.kept)
  where
    by_variable : (o : Option Variable) → IsSomeAnd o (λ v. v.layer ≡ Some f.layer)
        → heads variables initial conds f.layer var (1 - new) new ≡ true
        → option_map_or (λ v. option_map_or (λ layer. heads variables initial conds layer var (1 - new) new)
        v.layer false) o false ≡ true
    by_variable None h e = absurd h
    by_variable (Some v) h e = rw h e

abbrev head_numbers_of : ℕ × ℕ → List (Option ℕ)
head_numbers_of x = Some x.0 ∷ Some (1 - x.1) ∷ Some x.1 ∷ []

abbrev HeadFits : List Variable → List ℕ → List Fact → ℕ × ℕ → Type 0
HeadFits variables initial conds x = RuleFits variables initial conds x.0 x.1

abbrev head_test : List Variable → List ℕ → List Fact → ℕ × ℕ × ℕ → Option (ℕ × ℕ)
head_test variables initial conds x = cond (head_fits variables initial conds x.0 x.1 x.2) (Some (x.0, x.2)) None

head_taken : (variables : List Variable) (initial : List ℕ) (conds : List Fact) (l : List (Option ℕ)) (x : ℕ × ℕ)
    → option_and_then (head_test variables initial conds) (three_numbers l) ≡ Some x
    → HeadFits variables initial conds x × (l ≡ head_numbers_of x)
head_taken variables initial conds (Some a ∷ Some b ∷ Some c ∷ []) x e =
    let made : ℕ × ℕ = (a, c) in
    let k = cond_some (head_fits variables initial conds a b c) made x e in
    let h = head_is_fit variables initial conds a b c k.0 in
    subst (λ (z : ℕ × ℕ). HeadFits variables initial conds z
    × (let l : List (Option ℕ) = Some a ∷ Some b ∷ Some c ∷ [] in l ≡ head_numbers_of z)) k.1
    (h.0, ap (λ (z : ℕ). Some a ∷ Some z ∷ Some c ∷ []) h.1)
head_taken variables initial conds _ x e = cc

-- where there is a derived variable, there is a head
derived_at : (variables : List Variable) → list_all is_base variables ≡ false → (var : ℕ) × (var < length variables)
    × ((layer : ℕ) × Layered variables var layer)
derived_at [] e = cc
derived_at (v ∷ variables) e = by_layer v.layer refl e (derived_at variables)
  where
    by_layer : (own : Option ℕ) → v.layer ≡ own → (is_none own && list_all is_base variables) ≡ false
        → (list_all is_base variables ≡ false → (var : ℕ) × (var < length variables)
        × ((layer : ℕ) × Layered variables var layer))
        → (var : ℕ) × (var < length (v ∷ variables)) × ((layer : ℕ) × Layered (v ∷ variables) var layer)
    by_layer None t e ih = (let k = ih e in (suc k.0, omega (arith, k.1), k.2))
    by_layer (Some n) t e ih = (0, omega arith, (n, t))

head_is : (variables : List Variable) (initial : List ℕ) (conds : List Fact) → list_all is_base variables ≡ false → Good variables → Defaults variables initial
    → RowIs shape.Head (head_in variables initial conds) (λ x. numbers shape.Head (head_numbers_of x)) (HeadFits variables initial conds)
head_is variables initial conds some g d =
    let k = derived_at variables some in
    let few : length variables ≤ 65536 = g.few in
    let small : get_or initial k.0 0 < 2 = d k.0 k.2.0 k.2.1 in
    picked_are shape.Head three_numbers (head_test variables initial conds) head_numbers_of (HeadFits variables initial conds)
    (head_taken variables initial conds) (λ x f. (let t = fit_is_head variables initial conds x.0 x.1 d f in rw t refl))
    (k.0, get_or initial k.0 0)
    (record { layer = k.2.0; on = k.2.1; new = small; kept = λ e. absurd (omega arith) })
    ((let lt : k.0 < length variables = k.1 in omega arith), (omega arith, (omega arith, tt)))

abbrev pub RuleIsFit : List Variable → List ℕ → Rule → Type 0
RuleIsFit variables initial rule = AreFacts variables rule.conds × RuleFits variables initial rule.conds rule.var rule.new

abbrev parts_of : Rule → List Fact × (ℕ × ℕ)
parts_of rule = (rule.conds, (rule.var, rule.new))

exact_rule : (variables : List Variable) (initial : List ℕ) → list_all is_base variables ≡ false → Good variables
    → Defaults variables initial → (u : Unit {0}) → Exact (rule_at variables initial u) rule_rows
    (RuleIsFit variables initial)
unfolding rule_at
exact_rule variables initial some g d u =
    joining.exact_made shape_of IsSpelled rule_of parts_of (λ a. refl) (λ r. refl) _ _ (λ x. AreFacts variables x.0 × HeadFits variables initial x.0 x.1)
    (after_word shape.BeginRule (codes "begin_rule") _ _ (λ x. AreFacts variables x.0 × HeadFits variables initial x.0 x.1)
    (joining.exact_both shape_of IsSpelled (facts_at variables)
    (λ conds. before_at (row_at shape.Head (head_in variables initial conds)) shape.EndRule
    (exactly (codes "end_rule"))) (counted_rows fact_rows) (AreFacts variables)
    (λ _ x. numbers shape.Head (head_numbers_of x) ∷ word shape.EndRule (codes "end_rule") ∷ []) (λ conds x. HeadFits variables initial conds x)
    (exact_facts variables g)
    (λ conds _. before_word shape.EndRule (codes "end_rule") (row_at shape.Head (head_in variables initial conds))
    (λ x. numbers shape.Head (head_numbers_of x) ∷ []) (HeadFits variables initial conds)
    (grammar.exact_row shape_of IsSpelled shape.Head (head_in variables initial conds)
    (λ x. numbers shape.Head (head_numbers_of x)) (HeadFits variables initial conds)
    (head_is variables initial conds some g d)))))

most_derived : (t : Bool) → 1 ≤ cond t 0 1000000 → t ≡ false
most_derived true h = absurd (omega arith)
most_derived false h = refl

most_few : (t : Bool) (k : ℕ) → k ≤ cond t 0 1000000 → k ≤ 1000000
most_few true k h = omega arith
most_few false k h = h

not_based : (variables : List Variable) (var layer : ℕ) → list_all is_base variables ≡ true → Layered variables var layer → ⊥
not_based [] var layer t h = absurd h
not_based (v ∷ variables) zero layer t h = (let p = and_parts (is_base v) (list_all is_base variables) t in
    let a : is_none v.layer ≡ true = p.0 in let b : v.layer ≡ Some layer = h in
    let c : is_none v.layer ≡ false = ap is_none b in cc)
not_based (v ∷ variables) (suc var) layer t h = not_based variables var layer (and_parts (is_base v) (list_all is_base variables) t).1 h

rules_few : (variables : List Variable) (initial : List ℕ) (rules : List Rule) (t : Bool)
    → list_all is_base variables ≡ t → length rules ≤ 1000000 → All (RuleIsFit variables initial) rules
    → length rules ≤ cond t 0 1000000
rules_few variables initial rules false t le h = le
rules_few variables initial [] true t le h = omega arith
rules_few variables initial (r ∷ rules) true t le h = (let f =
    (All-head (RuleIsFit variables initial) r rules h).1 in absurd (not_based variables r.var f.layer t f.on))

pub exact_rules : (variables : List Variable) (initial : List ℕ) → Good variables → Defaults variables initial
    → Exact (rules_at variables initial) (counted_rows rule_rows)
    (λ rules. (length rules ≤ 1000000) × All (RuleIsFit variables initial) rules)
exact_rules variables initial g d =
    grammar.exact_as shape_of IsSpelled (rules_at variables initial) (counted_rows rule_rows) (counted_rows rule_rows)
    (λ rules. (length rules ≤ most_rules variables) × All (RuleIsFit variables initial) rules)
    (λ rules. (length rules ≤ 1000000) × All (RuleIsFit variables initial) rules)
    (exact_list (rule_at variables initial) rule_rows (RuleIsFit variables initial) (most_rules variables)
    (list_all is_base variables ≡ false) (λ u some. exact_rule variables initial some g d u)
    (most_derived (list_all is_base variables)))
    (λ rules f. ((most_few (list_all is_base variables) (length rules) f.0, f.1), refl))
    (λ rules f. (rules_few variables initial rules (list_all is_base variables) refl f.0 f.1, f.1))

-- Each rule of the layer is looked at, is done, or waits for a condition that is not met.
use Rattle.std.proofs.Common.{◌≡◌, ℕ, suc, ◌<◌, ◌⊎◌, inl, inr, List, [], ◌∷◌, ◌++◌, length, get_or, Option, Some, slice_get, Contains, refl, sym, ap, subst, ◌∙◌, arith}
use Rattle.std.proofs.Math.ListN.{set}
use Rattle.std.proofs.lemmas.Bool.{cases_eq}
use Rattle.std.proofs.lemmas.List.{length-set, get_or-set_same, get_or-set_other}
use Rattle.std.proofs.lemmas.List.Elements.{All-contains, Contains-get_or}
use Rattle.std.proofs.lemmas.Option.{slice_get-get_or, slice_get_read}
use Rattle.symk_task.specs.declared.parts.Fact.{Fact}
use Rattle.symk_task.specs.declared.parts.Rule.{Rule}
use Rattle.symk_task.specs.declared.parts.TaskParts.{TaskParts}
use Rattle.symk_task.specs.Variables.{range}
use Rattle.symk_task.specs.Fits.{Fits, FitsRule, InRange}
use Rattle.task_run.specs.Values.{HasValue}
use Rattle.symk_task.proofs.Places.{within_some}
use Rattle.task_run.proofs.Growing.{rule_within}
use Rattle.task_run.specs.RuleStatus.{LacksCondition}
use Rattle.task_run.specs.Layer.{IsOpenRule, Raises, IsStuck}
use Rattle.task_run.specs.Work.{StandsInList, waiting_at, Placed, AllPlaced, AllBut, KeptRules}
use Rattle.task_run.specs.Work.Placed.{stacked, idle, waits}

pub stands_left : (xs ys : List ℕ) (x : ℕ) → StandsInList xs x → StandsInList (xs ++ ys) x
stands_left [] ys x h = absurd h
stands_left (y ∷ xs) ys x (inl e) = inl e
stands_left (y ∷ xs) ys x (inr h) = inr (stands_left xs ys x h)

pub stands_right : (xs ys : List ℕ) (x : ℕ) → StandsInList ys x → StandsInList (xs ++ ys) x
stands_right [] ys x h = h
stands_right (y ∷ xs) ys x h = inr (stands_right xs ys x h)

pub stands_parts : (xs ys : List ℕ) (x : ℕ) → StandsInList (xs ++ ys) x → StandsInList xs x ⊎ StandsInList ys x
stands_parts [] ys x h = inr h
stands_parts (y ∷ xs) ys x (inl e) = inl (inl e)
stands_parts (y ∷ xs) ys x (inr h) = elim (stands_parts xs ys x h) [ inl k ↦ inl (inr k) | inr k ↦ inr k ]

module _ (task : TaskParts) (layer : ℕ) where
  -- a number is taken from the stack
  pub popped : (values stack rest : List ℕ) (waiting : List (List ℕ)) (x : ℕ) → stack ≡ rest ++ x ∷ []
      → AllPlaced task layer values stack waiting → AllBut x task layer values rest waiting
  popped values stack rest waiting x is all y rule at = go (all y rule at)
    where
      go : Placed task layer values stack waiting y rule → (x ≡ y) ⊎ Placed task layer values rest waiting y rule
      go (stacked h) = elim (stands_parts rest (x ∷ []) y (subst (λ (z : List ℕ). StandsInList z y) is h)) [
        | inl k ↦ inr (stacked k)
        | inr k ↦ elim k [ inl e ↦ inl e | inr n ↦ absurd n ]
      ]
      go (idle h) = inr (idle h)
      go (waits fact c n h) = inr (waits fact c n h)

  pub back_idle : (values stack : List ℕ) (waiting : List (List ℕ)) (x : ℕ) (rule : Rule)
      → slice_get task.rules x ≡ Some rule → ¬ IsOpenRule task layer values rule
      → AllBut x task layer values stack waiting → AllPlaced task layer values stack waiting
  back_idle values stack waiting x rule at not_so all y other at2 = elim (all y other at2) [
    | inl e ↦ (
        let same : rule ≡ other = (let k : slice_get task.rules x ≡ Some other = ap (λ (z : ℕ). slice_get task.rules z) e ∙ at2 in cc) in
        idle (subst (λ (z : Rule). ¬ IsOpenRule task layer values z) same not_so))
    | inr p ↦ p
  ]

  more_wait : (waiting : List (List ℕ)) (var x u y : ℕ) → var < length waiting → StandsInList (waiting_at waiting u) y
      → StandsInList (waiting_at (set waiting var (waiting_at waiting var ++ x ∷ [])) u) y
  more_wait waiting var x u y lt h = elim (cases_eq u var) [
    | inl e ↦ (
        let k : waiting_at (set waiting var (waiting_at waiting var ++ x ∷ [])) u ≡ waiting_at waiting var ++ x ∷ [] =
        (rw e (get_or-set_same waiting var (waiting_at waiting var ++ x ∷ []) [] lt)) in
        subst (λ (z : List ℕ). StandsInList z y) (sym k)
        (stands_left (waiting_at waiting var) (x ∷ []) y
        (subst (λ (z : ℕ). StandsInList (waiting_at waiting z) y) e h)))
    | inr ne ↦ subst (λ (z : List ℕ). StandsInList z y) (sym (get_or-set_other waiting var u (waiting_at waiting var ++ x ∷ []) [] ne)) h
  ]

  pub back_waits : (values stack : List ℕ) (waiting : List (List ℕ)) (x : ℕ) (rule : Rule) (fact : Fact)
      → slice_get task.rules x ≡ Some rule → Contains rule.conds fact → ¬ HasValue values fact
      → fact.var < length waiting
      → AllBut x task layer values stack waiting → AllPlaced task layer values stack (set waiting fact.var (waiting_at waiting fact.var ++ x ∷ []))
  back_waits values stack waiting x rule fact at in_conds not_so lt all y other at2 = elim (all y other at2) [
    | inl e ↦ (
        let same : rule ≡ other = (let k : slice_get task.rules x ≡ Some other = ap (λ (z : ℕ). slice_get task.rules z) e ∙ at2 in cc) in
        waits fact (subst (λ (z : Rule). Contains z.conds fact) same in_conds) not_so
        (subst (λ (z : List ℕ). StandsInList z y)
        (sym (get_or-set_same waiting fact.var (waiting_at waiting fact.var ++ x ∷ []) [] lt))
        (stands_right (waiting_at waiting fact.var) (x ∷ []) y (inl e))))
    | inr p ↦ go p
  ]
    where
      go : Placed task layer values stack waiting y other → Placed task layer values stack
          (set waiting fact.var (waiting_at waiting fact.var ++ x ∷ [])) y other
      go (stacked h) = stacked h
      go (idle h) = idle h
      go (waits f c n h) = waits f c n (more_wait waiting fact.var x f.var y lt h)

  -- nothing is left to look at
  pub all_stuck : (values : List ℕ) (waiting : List (List ℕ)) → AllPlaced task layer values [] waiting → IsStuck task layer values
  all_stuck values waiting all k d lt raises = go (all k (get_or task.rules k d) (slice_get-get_or task.rules k d lt))
    where
      go : Placed task layer values [] waiting k (get_or task.rules k d) → ⊥
      go (stacked h) = h
      go (idle h) = h raises.opened
      go (waits fact c n h) = n (All-contains (HasValue values) (get_or task.rules k d).conds fact raises.conds c)

  -- a variable is raised
  pub raised_on : (values stack : List ℕ) (waiting : List (List ℕ)) (x : ℕ) (rule : Rule)
      → slice_get task.rules x ≡ Some rule → Raises task layer values rule → rule.var < length values
      → rule.var < length waiting
      → AllBut x task layer values stack waiting → AllPlaced task layer (set values rule.var rule.new)
      (stack ++ waiting_at waiting rule.var) (set waiting rule.var [])
  raised_on values stack waiting x rule at raises lt lt2 all y other at2 = elim (all y other at2) [
    | inl e ↦ (
        let same : rule ≡ other = (let k : slice_get task.rules x ≡ Some other = ap (λ (z : ℕ). slice_get task.rules z) e ∙ at2 in cc) in
        idle (subst (λ (z : Rule). ¬ IsOpenRule task layer (set values rule.var rule.new) z) same
        (λ o. raises.opened.own.counts (sym (get_or-set_same values rule.var rule.new 0 lt) ∙ o.unraised))))
    | inr p ↦ go p
  ]
    where
      still : ¬ IsOpenRule task layer values other → IsOpenRule task layer (set values rule.var rule.new) other → ⊥
      still not_so o = elim (cases_eq other.var rule.var) [
        | inl e ↦ raises.opened.own.counts (
            sym (get_or-set_same values rule.var rule.new 0 lt)
            ∙ ap (λ (z : ℕ). get_or (set values rule.var rule.new) z 0) (sym e) ∙ o.unraised
            ∙ ap (λ (z : ℕ). get_or task.initial z 0) e)
        | inr ne ↦ not_so (record { own = o.own; unraised = sym (get_or-set_other values rule.var other.var rule.new 0 ne) ∙ o.unraised })
      ]

      go : Placed task layer values stack waiting y other → Placed task layer (set values rule.var rule.new)
          (stack ++ waiting_at waiting rule.var) (set waiting rule.var []) y other
      go (stacked h) = stacked (stands_left stack (waiting_at waiting rule.var) y h)
      go (idle h) = idle (still h)
      go (waits fact c n h) = elim (cases_eq fact.var rule.var) [
        | inl e ↦ stacked (stands_right stack (waiting_at waiting rule.var) y (subst (λ (z : ℕ). StandsInList (waiting_at waiting z) y) e h))
        | inr ne ↦ waits fact c (λ v. n (sym (get_or-set_other values rule.var fact.var rule.new 0 ne) ∙ v))
            (subst (λ (z : List ℕ). StandsInList z y) (sym (get_or-set_other waiting rule.var fact.var [] [] ne)) h)
      ]

-- the numbers stay numbers of rules
pub kept_pop : (task : TaskParts) (stack rest : List ℕ) (waiting : List (List ℕ)) (x : ℕ) → stack ≡ rest ++ x ∷ []
    → KeptRules task stack waiting → KeptRules task rest waiting × (x < length task.rules)
kept_pop task stack rest waiting x is k = (
  record { each = k.each; stacked = λ y h. k.stacked y (subst (λ (z : List ℕ). StandsInList z y) (sym is) (stands_left rest (x ∷ []) y h)); waits = k.waits },
  k.stacked x (subst (λ (z : List ℕ). StandsInList z x) (sym is) (stands_right rest (x ∷ []) x (inl refl))),
)

pub kept_wait : (task : TaskParts) (stack : List ℕ) (waiting : List (List ℕ)) (var x : ℕ) → var < length waiting
    → x < length task.rules → KeptRules task stack waiting → KeptRules task stack
    (set waiting var (waiting_at waiting var ++ x ∷ []))
kept_wait task stack waiting var x lt in_rules k = record {
  each = length-set waiting var (waiting_at waiting var ++ x ∷ []) ∙ k.each;
  stacked = k.stacked;
  waits = λ u y h. elim (cases_eq u var) [
    | inl e ↦ (
        let at : waiting_at (set waiting var (waiting_at waiting var ++ x ∷ [])) u ≡ waiting_at waiting var ++ x
        ∷ [] = (rw e (get_or-set_same waiting var (waiting_at waiting var ++ x ∷ []) [] lt)) in
        elim (stands_parts (waiting_at waiting var) (x ∷ []) y (subst (λ (z : List ℕ). StandsInList z y) at h)) [
          | inl p ↦ k.waits var y p
          | inr p ↦ elim p [ inl e2 ↦ subst (λ (z : ℕ). z < length task.rules) e2 in_rules | inr n ↦ absurd n ]
        ])
    | inr ne ↦ k.waits u y (subst (λ (z : List ℕ). StandsInList z y) (get_or-set_other waiting var u (waiting_at waiting var ++ x ∷ []) [] ne) h)
  ];
}

pub kept_wake : (task : TaskParts) (stack : List ℕ) (waiting : List (List ℕ)) (var : ℕ) → var < length waiting
    → KeptRules task stack waiting → KeptRules task (stack ++ waiting_at waiting var) (set waiting var [])
kept_wake task stack waiting var lt k = record {
  each = length-set waiting var [] ∙ k.each;
  stacked = λ y h. elim (stands_parts stack (waiting_at waiting var) y h) [ inl p ↦ k.stacked y p | inr p ↦ k.waits var y p ];
  waits = λ u y h. elim (cases_eq u var) [
    | inl e ↦ (
        let at : waiting_at (set waiting var []) u ≡ [] = (rw e (get_or-set_same waiting var [] [] lt)) in
        absurd (subst (λ (z : List ℕ). StandsInList z y) at h))
    | inr ne ↦ k.waits u y (subst (λ (z : List ℕ). StandsInList z y) (get_or-set_other waiting var u [] [] ne) h)
  ];
}

pub lacks_within : (task : TaskParts) (layer : ℕ) (values : List ℕ) (rule : Rule) (from place var : ℕ)
    → FitsRule task rule → LacksCondition task layer values rule from place var → var < length task.variables
lacks_within task layer values rule from place var fit l =
    let fact = get_or rule.conds place (record { var = 0; val = 0 }) in
    let r : InRange task.variables fact = fit.conds.1 place (record { var = 0; val = 0 }) l.first.within in
    subst (λ (z : ℕ). z < length task.variables) (l.on (record { var = 0; val = 0 })) (within_some (λ v. fact.val < range v) task.variables fact.var r)

pub lacks_waits : {task : TaskParts} {layer : ℕ} {values : List ℕ} (stack : List ℕ) (waiting : List (List ℕ)) (x : ℕ)
    {rule : Rule} {from place var : ℕ} → slice_get task.rules x ≡ Some rule
    → LacksCondition task layer values rule from place var → var < length waiting
    → AllBut x task layer values stack waiting → AllPlaced task layer values stack (set waiting var (waiting_at waiting var ++ x ∷ []))
lacks_waits {task} {layer} {values} stack waiting x {rule} {from} {place} {var} at l lt all =
    let d : Fact = record { var = 0; val = 0 } in
    let fact = get_or rule.conds place d in
    let e : fact.var ≡ var = l.on d in
    subst (λ (z : ℕ). AllPlaced task layer values stack (set waiting z (waiting_at waiting z ++ x ∷ []))) e
    (back_waits task layer values stack waiting x rule fact at (Contains-get_or rule.conds place d l.first.within)
    (l.first.unmet d) (subst (λ (z : ℕ). z < length waiting) (sym e) lt) all)

-- the rule of a number
pub record Rule_at (task : TaskParts) (x : ℕ) (rule : Rule) : Type 0 where
  pub fit : FitsRule task rule
  pub at : slice_get task.rules x ≡ Some rule
  pub within : rule.var < length task.variables
  pub in_rules : Contains task.rules rule

pub rule_at : (task : TaskParts) (rules : List Rule) (x : ℕ) (rule : Rule) → Fits task → rules ≡ task.rules
    → x < length task.rules → rule ≡ get_or rules x rule → Rule_at task x rule
rule_at task rules x rule fits same lt is =
    let r = rule_within task rules x rule fits same lt is in
    record {
      fit = r.0;
      at = slice_get_read task.rules (length task.rules) x rule refl lt
          (is ∙ ap (λ (z : List Rule). get_or z x rule) same);
      within = r.1;
      in_rules = r.2;
    }

pub none_left : (xs : List ℕ) → length xs ≡ 0 → xs ≡ []
none_left [] e = refl
none_left (x ∷ xs) e = (let z : suc (length xs) ≡ 0 = e in absurd (omega arith))

pub raises_at : (P : Rule → Type 0) (o : Option Rule) (rule : Rule) → o ≡ Some rule → Rattle.std.proofs.Common.IfSome o P → P rule
raises_at P o rule e h = subst (λ z. Rattle.std.proofs.Common.IfSome z P) e h

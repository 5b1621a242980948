-- What is kept of a task is right.
use Rattle.std.proofs.Common.{◌≡◌, ◌≢◌, ℕ, ◌+◌, ◌<◌, inl, inr, Bool, IsTrue, List, [], ◌∷◌, ◌++◌, length, get_or, Option, Some, None, IsSomeAnd, slice_get, refl, sym, ap, subst, ◌∙◌, arith}
use Rattle.std.specs.List.{All, Contains}
use Rattle.std.proofs.lemmas.Bool.{cases_eq}
use Rattle.std.proofs.lemmas.List.Elements.{at_read, Contains-append_left, Contains-push, Contains-push_cases}
use Rattle.symk_task.specs.declared.parts.Fact.{Fact}
use Rattle.symk_task.specs.declared.parts.Effect.{Effect}
use Rattle.symk_task.specs.declared.parts.Rule.{Rule}
use Rattle.symk_task.specs.declared.parts.Operator.{Operator}
use Rattle.symk_task.specs.declared.parts.TaskParts.{TaskParts}
use Rattle.symk_task.specs.Variables.{IsBase}
use Rattle.stubborn_sets.specs.declared.conflicts.Conflicts.{Conflicts}
use Rattle.stubborn_sets.specs.Depending.{has_mark, IsShutByRules, WritesOff, LeavesAlone}
use Rattle.stubborn_sets.specs.Making.{CannotMake}
use Rattle.stubborn_sets.specs.Kept.{AddsOne, number_of, given_by, AreGiversBelow, AreGivers, LeavesOut, IsOff, AreChangers, AreMakers, IsForOther, AreConflicts, conflicts_at, PutsRow, KnowsConflicts}
use Rattle.stubborn_sets.proofs.ListsLaw.{none_in}

-- Numbers, one after the other, of which each is put last or left out.

pub leaves_none : (Fine : ℕ → Type 0) (ops : List ℕ) → ops ≡ [] → LeavesOut Fine 0 ops
leaves_none Fine ops none = record {
  within = λ a h. absurd (none_in a (subst (λ (z : List ℕ). Contains z a) none h));
  out = λ a lt h. absurd (omega (arith, lt));
}

pub leaves_out : (Fine : ℕ → Type 0) (op : ℕ) (ops : List ℕ) → LeavesOut Fine op ops → Fine op → LeavesOut Fine (op + 1) ops
leaves_out Fine op ops was fine = record {
  within = λ a h. (let lt = was.within a h in omega (arith, lt));
  out = λ a lt off. elim (cases_eq a op) [
    | inl same ↦ subst Fine (sym same) fine
    | inr ne ↦ (let apart : a ≢ op = ne in was.out a (omega (arith, lt, apart)) off)
  ];
}

pub puts_last : (Fine : ℕ → Type 0) (op : ℕ) (ops new : List ℕ) → LeavesOut Fine op ops → new ≡ ops ++ op ∷ [] → LeavesOut Fine (op + 1) new
puts_last Fine op ops new was put = record {
  within = λ a h. elim (Contains-push_cases ops op a (subst (λ (z : List ℕ). Contains z a) put h)) [
    | inl old ↦ (let lt = was.within a old in omega (arith, lt))
    | inr is ↦ omega (arith, is)
  ];
  out = λ a lt off. elim (cases_eq a op) [
    | inl same ↦ absurd (off (subst (λ (z : List ℕ). Contains z a) (sym put)
        (subst (λ (z : ℕ). Contains (ops ++ op ∷ []) z) (sym same) (Contains-push ops op))))
    | inr ne ↦ (
        let apart : a ≢ op = ne in
        was.out a (omega (arith, lt, apart)) (λ h. off (subst (λ (z : List ℕ). Contains z a) (sym put) (Contains-append_left ops (op ∷ []) a h))))
  ];
}

-- By the lists of facts.

pub givers_none : (task : TaskParts) (lists : Fact → List ℕ) → ((fact : Fact) → lists fact ≡ []) → AreGiversBelow task 0 lists
givers_none task lists none = record {
  within = λ fact a h. absurd (none_in a (subst (λ (z : List ℕ). Contains z a) (none fact) h));
  each = λ a lt. absurd (omega (arith, lt));
}

some_and : {X : Type 0} (P Q : X → Type 0) → ((x : X) → P x → Q x) → (o : Option X) → IsSomeAnd o P → IsSomeAnd o Q
some_and P Q f None h = h
some_and P Q f (Some x) h = f x h

-- those of one operator more
pub givers_more : (task : TaskParts) (firsts : List ℕ) (op : ℕ) (operator : Operator) (old new : ℕ → List ℕ)
    → slice_get task.operators op ≡ Some operator
    → AreGiversBelow task op (λ fact. old (number_of firsts fact)) → AddsOne old new op
    → All (λ (effect : Effect). Contains (new (number_of firsts (given_by effect))) op) operator.effects
    → AreGiversBelow task (op + 1) (λ fact. new (number_of firsts fact))
givers_more task firsts op operator old new is g adds has = record {
  within = λ fact a h. elim (adds.adds (number_of firsts fact) a h) [
    | inl was ↦ (let lt = g.within fact a was in omega (arith, lt))
    | inr same ↦ omega (arith, same)
  ];
  each = λ a lt. elim (cases_eq a op) [
    | inl same ↦ subst (λ (z : ℕ). IsSomeAnd (slice_get task.operators z)
        (λ (o : Operator). All (λ (effect : Effect). Contains (new (number_of firsts (given_by effect))) z)
        o.effects)) (sym same)
        (subst (λ (z : Option Operator). IsSomeAnd z (λ (o : Operator). All
        (λ (effect : Effect). Contains (new (number_of firsts (given_by effect))) op) o.effects)) (sym is) has)
    | inr ne ↦ (
        let apart : a ≢ op = ne in
        some_and (λ (o : Operator). All (λ (effect : Effect). Contains (old (number_of firsts (given_by effect))) a)
        o.effects) (λ (o : Operator). All (λ (effect : Effect). Contains
        (new (number_of firsts (given_by effect))) a) o.effects)
        (λ o h k d below. adds.keeps (number_of firsts (given_by (get_or o.effects k d))) a (h k d below))
        (slice_get task.operators a) (g.each a (omega (arith, lt, apart))))
  ];
}

-- The makers of a fact.

-- of a base variable, by the lists of facts
pub makers_given : (task : TaskParts) (lists : Fact → List ℕ) (fact : Fact) → AreGivers task lists → IsBase task fact.var → AreMakers task fact (lists fact)
makers_given task lists fact g base = record {
  within = λ a h. g.within fact a h;
  out = λ a lt off. some_and (λ (o : Operator). All (λ (effect : Effect). Contains (lists (given_by effect)) a) o.effects) (CannotMake task fact)
      (λ o h. (
        inr (λ k d below var post. off (subst (λ (z : Fact). Contains (lists z) a)
            (same_fact (get_or o.effects k d) fact var post) (h k d below))),
        inl base,
      ))
      (slice_get task.operators a) (g.each a lt);
}
  where
    same_fact : (effect : Effect) (fact : Fact) → effect.var ≡ fact.var → effect.post ≡ fact.val → given_by effect ≡ fact
    same_fact effect fact var post =
        let made : ℕ → ℕ → Fact = λ v w. record { var = v; val = w } in
        ap (λ (v : ℕ). made v effect.post) var ∙ ap (λ (w : ℕ). made fact.var w) post

-- of a derived one
pub makers_changers : (task : TaskParts) (ops : List ℕ) (fact : Fact) → AreChangers task fact.var ops → ¬ IsBase task fact.var → AreMakers task fact ops
makers_changers task ops fact (inl base) derived = absurd (derived base)
makers_changers task ops fact (inr g) derived = record {
  within = g.within;
  out = λ a lt off. some_and (λ (o : Operator). LeavesAlone task fact.var o.effects) (CannotMake task fact)
      (λ o h. (inl derived, inr h)) (slice_get task.operators a) (g.out a lt off);
}

-- those off a set out of which no rule leads
pub changers_off : (task : TaskParts) (var : ℕ) (marks : List Bool) (ops : List ℕ) → IsTrue (has_mark marks var)
    → IsShutByRules task.rules marks → LeavesOut (IsOff task marks) (length task.operators) ops → AreChangers task var ops
changers_off task var marks ops on shut g = inr (record {
  within = g.within;
  out = λ a lt off. some_and (λ (o : Operator). WritesOff marks o.effects)
      (λ (o : Operator). LeavesAlone task var o.effects) (λ o h. (marks, on, shut, h))
      (slice_get task.operators a) (g.out a lt off);
})

-- The rules for a variable.

pub rules_none : (rules : List Rule) (lists : ℕ → List ℕ) → ((i : ℕ) → lists i ≡ []) → (var : ℕ) → LeavesOut (IsForOther rules var) 0 (lists var)
rules_none rules lists none var = leaves_none (IsForOther rules var) (lists var) (none var)

-- those of one rule more
pub rules_more : (rules : List Rule) (n : ℕ) (rule : Rule) (old new : ℕ → List ℕ) → n < length rules → rule ≡ get_or rules n rule
    → ((var : ℕ) → LeavesOut (IsForOther rules var) n (old var)) → AddsOne old new n → Contains (new rule.var) n
    → (var : ℕ) → LeavesOut (IsForOther rules var) (n + 1) (new var)
rules_more rules n rule old new within is was adds has var = record {
  within = λ a h. elim (adds.adds var a h) [
    | inl before ↦ (let lt = (was var).within a before in omega (arith, lt))
    | inr same ↦ omega (arith, same)
  ];
  out = λ a lt off. elim (cases_eq a n) [
    | inl same ↦ (λ d on. off (subst (λ (z : ℕ). Contains (new var) z) (sym same) (subst (λ (z : ℕ). Contains (new z) n) (here d a same ∙ on) has)))
    | inr ne ↦ (let apart : a ≢ n = ne in (was var).out a (omega (arith, lt, apart)) (λ h. off (adds.keeps var a h)))
  ];
}
  where
    here : (d : Rule) (a : ℕ) → a ≡ n → rule.var ≡ (get_or rules a d).var
    here d a same = at_read rules (λ (r : Rule). rule.var ≡ r.var) n rule within is refl d ∙ ap (λ (k : ℕ). (get_or rules k d).var) (sym same)

-- The lists of operators that don't commute.

pub conflicts_put : (task : TaskParts) (old new : Conflicts) (one : ℕ) (ops : List ℕ) → KnowsConflicts task old
    → PutsRow (conflicts_at old) (conflicts_at new) one ops → AreConflicts task one ops → KnowsConflicts task new
conflicts_put task old new one ops knows puts are = record {
  each = λ i list h. elim (puts i list h) [
    | inl was ↦ knows.each i list was
    | inr same ↦ subst (λ (z : ℕ). AreConflicts task z list) (sym same.0) (subst (λ (z : List ℕ). AreConflicts task one z) (sym same.1) are)
  ];
}

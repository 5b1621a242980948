-- What is barred stays false.
use Rattle.std.proofs.Common.{ℕ, zero, suc, ◌+◌, inl, inr, Bool, IsTrue, List, [], ◌∷◌, sym, subst, arith}
use Rattle.std.specs.List.{AllByRecursion, Contains}
use Rattle.std.proofs.lemmas.List.Elements.{All-contains, All-from_recursion}
use Rattle.symk_task.specs.declared.parts.Fact.{Fact}
use Rattle.symk_task.specs.declared.parts.Rule.{Rule}
use Rattle.symk_task.specs.declared.parts.TaskParts.{TaskParts}
use Rattle.symk_task.specs.Derived.{Met, HasRule, Derives, RaisedBelow}
use Rattle.symk_task.specs.Derived.Met.{base, same, raised, default}
use Rattle.symk_task.specs.Steps.{Holds}
use Rattle.symk_task.specs.Fits.{Fits, FitsRule, InRange}
use Rattle.symk_task.proofs.Closing.{sound}
use Rattle.symk_task.proofs.Layers.{raised_by}
use Rattle.task_run.specs.Values.{HasValue}
use Rattle.stubborn_sets.specs.Depending.{has_mark}
use Rattle.stubborn_sets.specs.Barring.{HasMakers, RaisesBarred, CannotComeFirst, IsBarredRule, AreBarredRules, IsBarred}

-- a condition that is met after rules that derive holds
met_holds : (task : TaskParts) (t : List ℕ) (layer : ℕ) (earlier : List Rule) (fact : Fact)
    → Derives task t (RaisedBelow layer task t) layer earlier
    → Met task t (RaisedBelow layer task t) layer earlier fact → Holds task t fact
unfolding RaisedBelow
met_holds task t layer earlier fact d (base b e) = inl (b, e)
met_holds task t layer earlier fact d (same l e h) =
    let s = sound task t (RaisedBelow layer task t) layer earlier d fact.var h in
    let up : RaisedBelow (suc layer) task t fact.var = inl (s.last, s.earlier, s.on, s.derives) in
    inr (layer, l, ((λ _. (raised_by task t (suc layer) fact.var layer l (omega arith)).0 up), (λ _. e)))
met_holds task t layer earlier fact d (raised below l lt e low) =
    inr (below, l, ((λ _. (raised_by task t layer fact.var below l lt).0 low), (λ _. e)))
met_holds task t layer earlier fact d (default below l lt e none) =
    inr (below, l, ((λ k. absurd (omega (arith, k, e))), (λ r. absurd (none ((raised_by task t layer fact.var below l lt).1 r)))))

met_of : (task : TaskParts) (t : List ℕ) (Low : ℕ → Type 0) (layer : ℕ) (earlier : List Rule) (facts : List Fact)
    (fact : Fact) → AllByRecursion (Met task t Low layer earlier) facts → Contains facts fact
    → Met task t Low layer earlier fact
met_of task t Low layer earlier facts fact met among = All-contains (Met task t Low layer earlier) facts fact
    (All-from_recursion (Met task t Low layer earlier) facts met) among

module _ (task : TaskParts) (t values : List ℕ) (barred marks : List Bool) (fits : Fits task) (rules : AreBarredRules task values barred marks task.rules)
    (keeps : (fact : Fact) → InRange task.variables fact → ¬ HasValue values fact → HasMakers task fact marks → Holds task t fact → ⊥) where
  -- no rule is the first to raise a barred variable
  none_first : (n : ℕ) (rule : Rule) (earlier : List Rule) → ((var : ℕ) → IsTrue (has_mark barred var) → RaisedBelow n
      task t var → ⊥) → ((var : ℕ) → IsTrue (has_mark barred var) → HasRule var earlier → ⊥)
      → Derives task t (RaisedBelow n task t) n (rule ∷ earlier) → IsTrue (has_mark barred rule.var) → ⊥
  none_first n rule earlier low before d on =
      let bar = All-contains (IsBarredRule task values barred marks) task.rules rule rules d.0.0 on d.0.1 in
      let met = met_of task t (RaisedBelow n task t) n earlier rule.conds bar.fact d.2 bar.among in
      by bar.fact met bar.waits
      (λ makers. keeps bar.fact (All-contains (InRange task.variables) rule.conds bar.fact
      (All-contains (FitsRule task) task.rules rule fits.each_rule d.0.0).conds.1 bar.among) bar.unmet makers
      (met_holds task t n earlier bar.fact d.3 met))
    where
      by : (fact : Fact) → Met task t (RaisedBelow n task t) n earlier fact → CannotComeFirst task barred marks fact → (HasMakers task fact marks → ⊥) → ⊥
      by fact met (inr makers) off = off makers
      by fact (base b e) (inl (raising, it_is)) off = raising.0 b
      by fact (same l e h) (inl (raising, it_is)) off = before fact.var it_is h
      by fact (raised below l lt e h) (inl (raising, it_is)) off = low fact.var it_is h
      by fact (default below l lt e h) (inl (raising, it_is)) off = (let k = raising.1 in absurd (omega (arith, k, e)))

  none_derived : (n : ℕ) → ((var : ℕ) → IsTrue (has_mark barred var) → RaisedBelow n task t var → ⊥) → (list : List Rule)
      → Derives task t (RaisedBelow n task t) n list → (var : ℕ) → IsTrue (has_mark barred var) → HasRule var list → ⊥
  none_derived n low [] d var on h = h
  none_derived n low (rule ∷ earlier) d var on (inl e) =
      none_first n rule earlier low (none_derived n low earlier d.3) d (subst (λ (v : ℕ). IsTrue (has_mark barred v)) (sym e) on)
  none_derived n low (rule ∷ earlier) d var on (inr h) = none_derived n low earlier d.3 var on h

  none_raised : (n : ℕ) (var : ℕ) → IsTrue (has_mark barred var) → RaisedBelow n task t var → ⊥
  unfolding RaisedBelow
  none_raised zero var on h = absurd h
  none_raised (suc n) var on (inl (last, earlier, is, d)) = none_derived n (none_raised n) (last ∷ earlier) d var on (inl is)
  none_raised (suc n) var on (inr h) = none_raised n var on h

  barred_false : (fact : Fact) → RaisesBarred task barred fact → Holds task t fact → ⊥
  barred_false fact (raising, it_is) (inl (on, e)) = raising.0 on
  barred_false fact (raising, it_is) (inr (layer, on, iff)) = (let r = iff.0 raising.1 in none_raised (r.0 + 1) fact.var it_is r.2)

-- a fact that waits for marked operators alone stays false
pub stays_false : (task : TaskParts) (t values : List ℕ) (marks : List Bool) (fact : Fact) → Fits task → IsBarred task values marks fact
    → ((other : Fact) → InRange task.variables other → ¬ HasValue values other → HasMakers task other marks → Holds task t other → ⊥) → Holds task t fact → ⊥
stays_false task t values marks fact fits b keeps h = barred_false task t values b.barred marks fits b.rules keeps fact b.raises h

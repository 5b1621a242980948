-- What a derived variable has in two states that agree on what it depends on.
use Rattle.std.proofs.Common.{◌≡◌, ℕ, zero, suc, ◌+◌, inl, inr, Bool, true, false, cond, IsTrue, List, [], ◌∷◌, length, get_or, Some, refl, sym, subst, ◌∙◌}
use Rattle.std.specs.List.{All, AllByRecursion, filter}
use Rattle.std.proofs.lemmas.List.Elements.{All-contains, recursion_from_All}
use Rattle.symk_task.specs.declared.parts.Fact.{Fact}
use Rattle.symk_task.specs.declared.parts.Rule.{Rule}
use Rattle.symk_task.specs.declared.parts.TaskParts.{TaskParts}
use Rattle.symk_task.specs.Variables.{IsBase}
use Rattle.symk_task.specs.Derived.{Met, HasRule, Derives, Raised, RaisedBelow}
use Rattle.symk_task.specs.Derived.Met.{base, same, raised, default}
use Rattle.symk_task.specs.Steps.{Holds}
use Rattle.stubborn_sets.proofs.Agreeing.{Agree}
use Rattle.symk_task.specs.Fits.{Fits}
use Rattle.symk_task.proofs.Places.{within_some}
use Rattle.stubborn_sets.specs.Depending.{has_mark, IsRuleBelow, StaysIn, IsShutByRules}

-- each marked base variable has one value in both
abbrev pub AgreeOn : TaskParts → List Bool → List ℕ → List ℕ → Type 0
AgreeOn task marks s t = (var : ℕ) → IsBase task var → IsTrue (has_mark marks var) → Agree task s t var

-- the rules for marked variables
abbrev kept : List Bool → List Rule → List Rule
kept marks rules = filter (λ (rule : Rule). has_mark marks rule.var) rules

either_rule : (var : ℕ) (b : Bool) (rule : Rule) (rest : List Rule) → HasRule var rest → HasRule var (cond b (rule ∷ rest) rest)
either_rule var true rule rest h = inr h
either_rule var false rule rest h = h

has_rule : (marks : List Bool) (var : ℕ) (rules : List Rule) → IsTrue (has_mark marks var) → HasRule var rules → HasRule var (kept marks rules)
has_rule marks var [] on h = h
has_rule marks var (rule ∷ rules) on (inl e) =
    subst (λ (b : Bool). HasRule var (cond b (rule ∷ kept marks rules) (kept marks rules)))
    (sym (subst (λ (v : ℕ). IsTrue (has_mark marks v)) (sym e) on)) (inl e)
has_rule marks var (rule ∷ rules) on (inr h) = either_rule var (has_mark marks rule.var) rule (kept marks rules) (has_rule marks var rules on h)

-- the states agree on the marked base variables, and what is raised in lower layers is the same for marked variables
record AreAlike (task : TaskParts) (marks : List Bool) (s t : List ℕ) (Low Lower : ℕ → Type 0) : Type 0 where
  agree : AgreeOn task marks s t
  to : (var : ℕ) → IsTrue (has_mark marks var) → Low var → Lower var
  back : (var : ℕ) → IsTrue (has_mark marks var) → Lower var → Low var

module _ (task : TaskParts) (marks : List Bool) (shut : IsShutByRules task.rules marks) where
  met_on : {s t : List ℕ} {Low Lower : ℕ → Type 0} (layer : ℕ) (earlier : List Rule) (fact : Fact)
      → AreAlike task marks s t Low Lower → IsTrue (has_mark marks fact.var) → Met task s Low layer earlier fact
      → Met task t Lower layer (kept marks earlier) fact
  met_on layer earlier fact alike on (base b e) = base b (sym (alike.agree fact.var b on) ∙ e)
  met_on layer earlier fact alike on (same l e h) = same l e (has_rule marks fact.var earlier on h)
  met_on layer earlier fact alike on (raised below l lt e h) = raised below l lt e (alike.to fact.var on h)
  met_on layer earlier fact alike on (default below l lt e h) = default below l lt e (λ k. h (alike.back fact.var on k))

  mets_on : {s t : List ℕ} {Low Lower : ℕ → Type 0} (layer : ℕ) (earlier : List Rule)
      → AreAlike task marks s t Low Lower → (facts : List Fact)
      → AllByRecursion (λ fact. IsTrue (has_mark marks fact.var)) facts
      → AllByRecursion (Met task s Low layer earlier) facts
      → AllByRecursion (Met task t Lower layer (kept marks earlier)) facts
  mets_on layer earlier alike [] on h = tt
  mets_on layer earlier alike (fact ∷ facts) on h =
      (met_on layer earlier fact alike on.0 h.0, mets_on layer earlier alike facts on.1 h.1)

  one_rule : {s t : List ℕ} {Low Lower : ℕ → Type 0} (layer : ℕ) → AreAlike task marks s t Low Lower
      → (rule : Rule) (earlier : List Rule) → Derives task s Low layer (rule ∷ earlier) → Derives task t Lower layer (kept marks earlier)
      → (b : Bool) → has_mark marks rule.var ≡ b → Derives task t Lower layer (cond b (rule ∷ kept marks earlier) (kept marks earlier))
  one_rule layer alike rule earlier d rest true on = (
    d.0,
    d.1,
    mets_on layer earlier alike rule.conds
        (recursion_from_All (λ (fact : Fact). IsTrue (has_mark marks fact.var)) rule.conds (All-contains (StaysIn marks) task.rules rule shut d.0.0 on)) d.2,
    rest,
  )
  one_rule layer alike rule earlier d rest false off = rest

  derives_on : {s t : List ℕ} {Low Lower : ℕ → Type 0} (layer : ℕ) → AreAlike task marks s t Low Lower
      → (rules : List Rule) → Derives task s Low layer rules → Derives task t Lower layer (kept marks rules)
  derives_on layer alike [] d = tt
  derives_on layer alike (rule ∷ earlier) d =
      one_rule layer alike rule earlier d (derives_on layer alike earlier d.3) (has_mark marks rule.var) refl

  raised_on : (n : ℕ) (s t : List ℕ) → AgreeOn task marks s t → (var : ℕ) → IsTrue (has_mark marks var) → RaisedBelow n task s var → RaisedBelow n task t var
  unfolding RaisedBelow
  raised_on zero s t agree var on h = absurd h
  raised_on (suc n) s t agree var on (inl (last, earlier, is, d)) =
      inl (
        last,
        kept marks earlier,
        is,
        subst (λ (b : Bool). Derives task t (RaisedBelow n task t) n
            (cond b (last ∷ kept marks earlier) (kept marks earlier)))
            (subst (λ (v : ℕ). IsTrue (has_mark marks v)) (sym is) on)
            (let alike : AreAlike task marks s t (RaisedBelow n task s) (RaisedBelow n task t) = record {
              agree = agree;
              to = raised_on n s t agree;
              back = raised_on n t s (λ v b m. sym (agree v b m));
            } in
            derives_on n alike (last ∷ earlier) d),
      )
  raised_on (suc n) s t agree var on (inr h) = inr (raised_on n s t agree var on h)

  to_raised : (s t : List ℕ) (var : ℕ) → AgreeOn task marks s t → IsTrue (has_mark marks var) → Raised task s var → Raised task t var
  to_raised s t var agree on (layer, has, h) = (layer, has, raised_on (layer + 1) s t agree var on h)

  -- a fact of a marked variable holds in the other state too
  pub holds_on : (s t : List ℕ) (fact : Fact) → AgreeOn task marks s t → IsTrue (has_mark marks fact.var) → Holds task s fact → Holds task t fact
  holds_on s t fact agree on (inl (b, e)) = inl (b, sym (agree fact.var b on) ∙ e)
  holds_on s t fact agree on (inr (layer, has, iff)) =
      inr (layer, has, ((λ e. to_raised s t fact.var agree on (iff.0 e)), (λ r. iff.1 (to_raised t s fact.var (λ v b m. sym (agree v b m)) on r))))

-- the rules of a task are for its variables, and read such
pub rules_below : (task : TaskParts) → Fits task → All (IsRuleBelow (length task.variables)) task.rules
rules_below task fits k d lt =
    let rule = get_or task.rules k d in
    let f = fits.each_rule k d lt in (
      within_some (λ v. v.layer ≡ Some f.layer) task.variables rule.var f.on,
      λ j e below. within_some _ task.variables (get_or rule.conds j e).var (f.conds.1 j e below),
    )

-- What holds in two states that agree on some base variables.
use Rattle.std.proofs.Common.{◌≡◌, ℕ, zero, suc, ◌+◌, ◌⊎◌, ◌↔◌, inl, inr, List, [], ◌∷◌, get_or, refl, sym, ◌∙◌}
use Rattle.std.specs.List.{AllByRecursion, Contains}
use Rattle.std.proofs.lemmas.List.Elements.{All-contains, recursion_from_All}
use Rattle.symk_task.specs.declared.parts.Fact.{Fact}
use Rattle.symk_task.specs.declared.parts.Rule.{Rule}
use Rattle.symk_task.specs.declared.parts.TaskParts.{TaskParts}
use Rattle.symk_task.specs.Variables.{IsBase, HasLayer, place}
use Rattle.symk_task.specs.Derived.{Met, Derives, Raised, RaisedBelow}
use Rattle.symk_task.specs.Derived.Met.{base, same, raised, default}
use Rattle.symk_task.specs.Steps.{Holds}
use Rattle.stubborn_sets.specs.Reading.{AreOff, Unread}

-- var has one value in both
abbrev pub Agree : TaskParts → List ℕ → List ℕ → ℕ → Type 0
Agree task s t var = get_or s (place task var) 0 ≡ get_or t (place task var) 0

-- so has each base variable that a rule reads
abbrev pub RulesAgree : TaskParts → List ℕ → List ℕ → Type 0
RulesAgree task s t = (var : ℕ) → IsBase task var → Unread task var ⊎ Agree task s t var

pub turned : (task : TaskParts) (s t : List ℕ) → RulesAgree task s t → RulesAgree task t s
turned task s t agree var on = elim (agree var on) [ inl u ↦ inl u | inr e ↦ inr (sym e) ]

module _ (task : TaskParts) (s t : List ℕ) (Low Lower : ℕ → Type 0) (layer : ℕ) (earlier : List Rule)
    (to : (var : ℕ) → Low var → Lower var) (back : (var : ℕ) → Lower var → Low var) where
  met_to : (fact : Fact) → (IsBase task fact.var → Agree task s t fact.var) → Met task s Low layer earlier fact
      → Met task t Lower layer earlier fact
  met_to fact agree (base b e) = base b (sym (agree b) ∙ e)
  met_to fact agree (same l e h) = same l e h
  met_to fact agree (raised below l lt e h) = raised below l lt e (to fact.var h)
  met_to fact agree (default below l lt e h) = default below l lt e (λ k. h (back fact.var k))

  mets_to : (facts : List Fact) → AllByRecursion (λ fact. IsBase task fact.var → Agree task s t fact.var) facts
      → AllByRecursion (Met task s Low layer earlier) facts → AllByRecursion (Met task t Lower layer earlier) facts
  mets_to [] agree h = tt
  mets_to (fact ∷ facts) agree h = (met_to fact agree.0 h.0, mets_to facts agree.1 h.1)

-- the conditions of a rule
conds_agree : (task : TaskParts) (s t : List ℕ) (rule : Rule) → RulesAgree task s t → Contains task.rules rule
    → AllByRecursion (λ fact. IsBase task fact.var → Agree task s t fact.var) rule.conds
conds_agree task s t rule agree has =
    recursion_from_All (λ (fact : Fact). IsBase task fact.var → Agree task s t fact.var) rule.conds (λ k d lt on.
    let var = (get_or rule.conds k d).var in
    elim (agree var on) [
      | inl unread ↦ absurd (All-contains (λ (r : Rule). AreOff var r.conds) task.rules rule unread has k d lt refl)
      | inr e ↦ e
    ])

derives_to : (task : TaskParts) (s t : List ℕ) (Low Lower : ℕ → Type 0) (layer : ℕ)
    → ((var : ℕ) → Low var → Lower var) → ((var : ℕ) → Lower var → Low var) → RulesAgree task s t
    → (rules : List Rule) → Derives task s Low layer rules → Derives task t Lower layer rules
derives_to task s t Low Lower layer to back agree [] d = tt
derives_to task s t Low Lower layer to back agree (rule ∷ earlier) d = (
  d.0,
  d.1,
  mets_to task s t Low Lower layer earlier to back rule.conds (conds_agree task s t rule agree d.0.0)
      d.2,
  derives_to task s t Low Lower layer to back agree earlier d.3,
)

raised_to : (n : ℕ) (task : TaskParts) (s t : List ℕ) → RulesAgree task s t → (var : ℕ) → RaisedBelow n task s var → RaisedBelow n task t var
unfolding RaisedBelow
raised_to zero task s t agree var h = absurd h
raised_to (suc n) task s t agree var (inl (last, earlier, on, d)) =
    inl (
      last,
      earlier,
      on,
      derives_to task s t (RaisedBelow n task s) (RaisedBelow n task t) n
          (raised_to n task s t agree) (raised_to n task t s (turned task s t agree)) agree (last ∷ earlier) d,
    )
raised_to (suc n) task s t agree var (inr h) = inr (raised_to n task s t agree var h)

to_raised : (task : TaskParts) (s t : List ℕ) (var : ℕ) → RulesAgree task s t → Raised task s var → Raised task t var
to_raised task s t var agree (layer, on, h) = (layer, on, raised_to (layer + 1) task s t agree var h)

-- a fact holds in the other state where they agree on what it depends on
pub holds_to : (task : TaskParts) (s t : List ℕ) (fact : Fact) → (IsBase task fact.var → Agree task s t fact.var)
    → ((layer : ℕ) → HasLayer task fact.var layer → RulesAgree task s t) → Holds task s fact → Holds task t fact
holds_to task s t fact agree derived (inl (on, e)) = inl (on, sym (agree on) ∙ e)
holds_to task s t fact agree derived (inr (layer, on, iff)) =
    let rules = derived layer on in
    inr (layer, on, ((λ e. to_raised task s t fact.var rules (iff.0 e)), (λ r. iff.1 (to_raised task t s fact.var (turned task s t rules) r))))

-- and in neither or in both
pub holds_same : (task : TaskParts) (s t : List ℕ) (fact : Fact) → (IsBase task fact.var → Agree task s t fact.var)
    → ((layer : ℕ) → HasLayer task fact.var layer → RulesAgree task s t) → Holds task s fact ↔ Holds task t fact
holds_same task s t fact agree derived =
    (holds_to task s t fact agree derived, holds_to task t s fact (λ on. sym (agree on)) (λ layer on. turned task s t (derived layer on)))

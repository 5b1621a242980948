-- How a closing of rules, layer by layer, decides which variables are raised.
use Rattle.std.proofs.Common.{◌≡◌, ℕ, inl, inr, List, [], ◌∷◌, subst}
use Rattle.std.specs.List.{AllByRecursion}
use Rattle.symk_task.specs.declared.parts.Fact.{Fact}
use Rattle.symk_task.specs.declared.parts.Rule.{Rule}
use Rattle.symk_task.specs.declared.parts.TaskParts.{TaskParts}
use Rattle.symk_task.specs.Variables.{HasLayer}
use Rattle.symk_task.specs.Derived.{Counts, HasRule, Met, Derives}
use Rattle.symk_task.specs.Derived.Met.{base, same, raised, default}

module _ (task : TaskParts) (s : List ℕ) (Low : ℕ → Type 0) (layer : ℕ) where
  -- with more rules before, what was met is met
  pub met_more : (xs ys : List Rule) → ((var : ℕ) → HasRule var xs → HasRule var ys) → (fact : Fact)
      → Met task s Low layer xs fact → Met task s Low layer ys fact
  met_more xs ys more fact (base b e) = base b e
  met_more xs ys more fact (same l e h) = same l e (more fact.var h)
  met_more xs ys more fact (raised below l lt e h) = raised below l lt e h
  met_more xs ys more fact (default below l lt e h) = default below l lt e h

  pub all_more : (xs ys : List Rule) → ((var : ℕ) → HasRule var xs → HasRule var ys) → (facts : List Fact)
      → AllByRecursion (Met task s Low layer xs) facts → AllByRecursion (Met task s Low layer ys) facts
  all_more xs ys more [] h = tt
  all_more xs ys more (f ∷ facts) h = (met_more xs ys more f h.0, all_more xs ys more facts h.1)

  -- No rule of the layer derives anything more.
  pub record Closed (fired : List Rule) : Type 0 where
    pub closed : (rule : Rule) → Counts task rule → HasLayer task rule.var layer
        → AllByRecursion (Met task s Low layer fired) rule.conds → HasRule rule.var fired

  -- whatever a list of rules derives was derived
  pub complete : (fired xs : List Rule) → Closed fired → Derives task s Low layer xs → (var : ℕ) → HasRule var xs → HasRule var fired
  complete fired [] c d var h = absurd h
  complete fired (rule ∷ xs) c d var (inl e) = subst (λ (z : ℕ). HasRule z fired) e
      (c.closed rule d.0 d.1 (all_more xs fired (complete fired xs c d.3) rule.conds d.2))
  complete fired (rule ∷ xs) c d var (inr h) = complete fired xs c d.3 var h

  -- a list that derives, and that ends with a rule for var
  pub record Ends (var : ℕ) : Type 0 where
    pub last : Rule
    pub earlier : List Rule
    pub on : last.var ≡ var
    pub derives : Derives task s Low layer (last ∷ earlier)

  -- what the list has a rule for was derived
  pub sound : (fired : List Rule) → Derives task s Low layer fired → (var : ℕ) → HasRule var fired → Ends var
  sound [] d var h = absurd h
  sound (rule ∷ fired) d var (inl e) = record { last = rule; earlier = fired; on = e; derives = d }
  sound (rule ∷ fired) d var (inr h) = sound fired d.3 var h

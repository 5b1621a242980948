-- Which fact was chosen so far.
use Rattle.std.proofs.Common.{◌≡◌, ℕ, ◌+◌, ◌<◌, ◌⊎◌, inl, inr, Bool, [], List, length, get_or, below_more, Option, Some, None, MatchOption, sym, subst}
use Rattle.std.specs.List.{Contains}
use Rattle.std.proofs.lemmas.List.Elements.{at_read, Contains-get_or}
use Rattle.std.proofs.lemmas.Option.{MatchOption-at_some}
use Rattle.symk_task.specs.declared.parts.Fact.{Fact}
use Rattle.symk_task.specs.declared.parts.Effect.{Effect}
use Rattle.symk_task.specs.declared.parts.TaskParts.{TaskParts}
use Rattle.task_run.specs.Values.{AllowsBy}
use Rattle.stubborn_sets.specs.declared.choosing.Lack.{Lack}
use Rattle.stubborn_sets.specs.Making.{IsRefusedFact, IsRefusedOf}
use Rattle.stubborn_sets.specs.Barring.{HasMakers, CannotComeFirst}

module _ (values : List ℕ) (effects : List Effect) (before : Option Lack) where
  -- of the effects below the number, and what was found before
  abbrev pub Asked : ℕ → Option Lack → Type 0
  Asked n best = MatchOption best
      ((before ≡ None) × ((k : ℕ) (d : Effect) → k < n → AllowsBy values (get_or effects k d)))
      (λ lack. (before ≡ Some lack) ⊎ IsRefusedOf values effects lack.fact)

  -- one effect more, which asks for nothing that doesn't hold
  pub asks_none : (n : ℕ) (effect : Effect) (best : Option Lack) → n < length effects
      → effect ≡ get_or effects n effect → AllowsBy values effect → Asked n best → Asked (n + 1) best
  asks_none n effect None lt is allows h = (
    h.0,
    λ k d. below_more (λ k. AllowsBy values (get_or effects k d)) n
        (λ k below. h.1 k d below) (at_read effects (AllowsBy values) n effect lt is allows d) k,
  )
  asks_none n effect (Some lack) lt is allows h = h

  -- one that asks for the fact, or what was found so far
  pub asks_one : (n : ℕ) (effect : Effect) (fact : Fact) (best : Option Lack) (lack : Lack) → n < length effects
      → effect ≡ get_or effects n effect → IsRefusedFact values effect fact
      → (lack.fact ≡ fact) ⊎ (best ≡ Some lack) → Asked n best → (before ≡ Some lack) ⊎ IsRefusedOf values effects lack.fact
  asks_one n effect fact best lack lt is refused (inl same) h =
      inr (
        effect,
        subst (λ (e : Effect). Contains effects e) (sym is) (Contains-get_or effects n effect lt),
        subst
            (IsRefusedFact values effect) (sym same) refused,
      )
  asks_one n effect fact best lack lt is refused (inr was) h =
      MatchOption-at_some ((before ≡ None) × ((k : ℕ) (d : Effect) → k < n → AllowsBy values (get_or effects k d)))
      (λ lack. (before ≡ Some lack) ⊎ IsRefusedOf values effects lack.fact) lack was h

-- no variable is barred
pub waits_makers : (task : TaskParts) (marks : List Bool) (fact : Fact) → CannotComeFirst task [] marks fact → HasMakers task fact marks
waits_makers task marks fact (inl (raising, it_is)) = absurd (cc)
waits_makers task marks fact (inr makers) = makers

-- An engine of which every list of operators is a plan, and that stops once it has told some.
use Rattle.std.specs.Prelude.{◌≡◌, ℕ, ◌<◌, ◌-◌, ◌^◌, ◌⊎◌, Bool, true, false, not, ◌&&◌, ◌||◌, IsTrue, IsFalse, List, [], ◌∷◌, ◌++◌, Option, Some, None, Result, Ok, Err}
use Rattle.std.specs.Bool.{Decides}
use Rattle.std.specs.List.{list_any}
use Rattle.std.proofs.Math.Nat.{not-suc-le-zero}
use Rattle.std.proofs.lemmas.Bool.Decides.{Decides-or, Decides-and, Decides-not}
use Rattle.std.proofs.Common.{subst}
use Rattle.symk_task.specs.declared.parts.Mode.TheVariants.{TopK, Unordered}
use Rattle.symk_task.specs.Plans.{IsListed}
use Rattle.task_system.specs.System.{IsSystemPlan, IsSystemPlanOf, same}
use Rattle.lazy_plans.specs.Law.{Fair, Last}
use Rattle.lazy_plans.specs.declared.stop.Stop.{Stop}
use Rattle.lazy_plans.specs.declared.stop.Stop.TheVariants.{Memory, CostRange}
use Rattle.lazy_plans.specs.declared.stop.Ending.TheVariants.{StoppedBy}
use Rattle.lazy_plans.specs.Told.{is_plan_in}
use Rattle.lazy_plans.proofs.Told.{in_told}
use Rattle.lazy_plans.specs.SelectorsOwe.{Unlisted, is_unlisted}
use Rattle.lazy_plans.proofs.Draws.{told_unlisted}
use Rattle.lazy_plans.proofs.Keyed.{listed_told}
use Rattle.selectors.specs.Members.{ArePlans}
use Rattle.scripted_plans.specs.Free.{free}
use Rattle.scripted_plans.specs.Scripted.{costs_free}

-- each list of operators that was not given
abbrev pub Untold : List (List ℕ) → List ℕ → Type 0
Untold given = Unlisted TopK given (IsSystemPlanOf free TopK)

abbrev pub is_untold : List (List ℕ) → List ℕ → Bool
is_untold given = is_unlisted TopK given (is_plan_in free TopK)

-- of these each that is a rearrangement of none given, and each that is still to be told
abbrev pub Unmet : List (List ℕ) → List (List ℕ) → List ℕ → Type 0
Unmet given left q = Untold given q × ((¬ IsListed Unordered given q) ⊎ IsListed TopK left q)

abbrev pub is_unmet : List (List ℕ) → List (List ℕ) → List ℕ → Bool
is_unmet given left q = is_untold given q && (not (list_any (same Unordered q) given) || list_any (same TopK q) left)

-- The first of those that are left was given.
pub record TookFirst (left later given more : List (List ℕ)) (p : List ℕ) : Type 0 where
  pub first : left ≡ p ∷ later
  pub plan : IsSystemPlan free p
  pub fresh : ¬ IsListed TopK given p
  pub noted : more ≡ given ++ p ∷ []

-- once it stopped it answers so again
abbrev pub last_by : Bool → Last
last_by true = Some (StoppedBy Memory)
last_by false = None

-- what a call answers: one of those that are left, or out of memory, from which on nothing changes
abbrev pub AnswersByScript : List (List ℕ) → List (List ℕ) → List (List ℕ) → List (List ℕ) → Bool → Bool → Result (Option (List ℕ)) Stop → Type 0
AnswersByScript left later given more before after (Ok (Some p)) = TookFirst left later given more p × IsFalse before × IsFalse after
AnswersByScript left later given more before after (Ok None) = ⊥
AnswersByScript left later given more before after (Err Memory) = (later ≡ left) × (more ≡ given) × IsTrue after
AnswersByScript left later given more before after (Err CostRange) = ⊥

-- no list of operators is too dear
pub fair_untold : (given : List (List ℕ)) → Fair free TopK None (Untold given)
fair_untold given = record {
  members = λ p h. h.1;
  dearer = λ p plan dear. absurd (not-suc-le-zero {n = 2 ^ 64 - 1} (subst (λ (c : ℕ). 2 ^ 64 - 1 < c) (costs_free p) dear));
}

pub told_untold : (given : List (List ℕ)) (p : List ℕ) → Decides (is_untold given p) (Untold given p)
told_untold given p = told_unlisted TopK given (IsSystemPlanOf free TopK) (is_plan_in free TopK) p (in_told free TopK p)

pub fair_unmet : (given left : List (List ℕ)) → ArePlans free (Unmet given left)
fair_unmet given left p h = h.0.1

pub told_unmet : (given left : List (List ℕ)) (p : List ℕ) → Decides (is_unmet given left p) (Unmet given left p)
told_unmet given left p = Decides-and _ _ (told_untold given p) (Decides-or _ _ (Decides-not _ (listed_told Unordered given p)) (listed_told TopK left p))

-- A right list of plans of the system is one of plans of the task, and so are the ends of lists.
use Rattle.std.proofs.Common.{◌≡◌, ℕ, ◌-◌, ◌↔◌, ◌<◌, ◌≤◌, ◌^◌, List, [], ◌∷◌, length, map, Option, Some, None, IfSome, slice_get, refl, sym, ap, subst, ◌∙◌, arith}
use Rattle.std.specs.List.Sorted.{IsNonDecreasing}
use Rattle.std.proofs.lemmas.List.Elements.{All-weaker}
use Rattle.symk_task.specs.declared.parts.Mode.{Mode}
use Rattle.symk_task.specs.declared.parts.TaskParts.{TaskParts}
use Rattle.symk_task.specs.Plans as meaning
use Rattle.symk_task.specs.Plans.{Same}
use Rattle.symk_task.specs.Fits.{Fits}
use Rattle.task_system.specs.Lists.{IsAmong, IsRightList}
use Rattle.task_system.specs.System.{cost_in_system, IsSystemPlanOf, IsRightOfSystem, AllSystemPlansListed, AllSystemPlansInRange, HasDearerSystemPlan}
use Rattle.task_system.specs.Computed.{system_of}
use Rattle.task_system.proofs.RunsLaw.{cost_law}
use Rattle.task_system.proofs.TraceLaw.{mode_law}

if_weaker : {X : Type 0} (P Q : X → Type 0) (o : Option X) → ((x : X) → P x → Q x) → IfSome o P → IfSome o Q
if_weaker P Q None f h = h
if_weaker P Q (Some x) f h = f x h

map_same : (c d : List ℕ → ℕ) → ((p : List ℕ) → c p ≡ d p) → (plans : List (List ℕ)) → map c plans ≡ map d plans
map_same c d same [] = refl
map_same c d same (p ∷ plans) = ap (λ (z : ℕ). z ∷ map c plans) (same p) ∙ ap (λ (z : List ℕ). d p ∷ z) (map_same c d same plans)

-- a right list is one for what is a plan and costs the same
right_as : (P Q : List ℕ → Type 0) (Alike : List ℕ → List ℕ → Type 0) (c d : List ℕ → ℕ) → ((p : List ℕ) → P p → Q p)
    → ((p : List ℕ) → Q p → P p) → ((p : List ℕ) → c p ≡ d p)
    → (plans : List (List ℕ)) → IsRightList P Alike c plans → IsRightList Q Alike d plans
right_as P Q Alike c d to back same plans h = record {
  each = All-weaker P Q to plans h.each;
  different = h.different;
  costs = subst IsNonDecreasing (map_same c d same plans) h.costs;
  cheapest =
      if_weaker (λ dearest. (p : List ℕ) → P p → c p < c dearest → IsAmong Alike plans p)
      (λ dearest. (p : List ℕ) → Q p → d p < d dearest → IsAmong Alike plans p)
      (slice_get plans (length plans - 1))
      (λ dearest k p q lt. k p (back p q) (let a = same p in let b = same dearest in omega (arith, a, b, lt))) h.cheapest;
}

-- what the task calls a right list is one of its plans
pub right_form : (task : TaskParts) (mode : Mode) (plans : List (List ℕ)) → meaning.IsRight task mode plans
    ↔ IsRightList (meaning.IsPlanOf task mode) (Same mode) (meaning.cost_of task) plans
right_form task mode plans = (
  (λ h. record { each = h.each; different = h.different; costs = h.costs; cheapest = h.cheapest }),
  (λ h. record { each = h.each; different = h.different; costs = h.costs; cheapest = h.cheapest }),
)

-- the law of right lists
pub right_law : (task : TaskParts) (mode : Mode) (plans : List (List ℕ)) → Fits task
    → IsRightOfSystem (system_of task) mode plans ↔ meaning.IsRight task mode plans
right_law task mode plans fits =
    let f = right_form task mode plans in (
      (λ h. f.1 (right_as (IsSystemPlanOf (system_of task) mode) (meaning.IsPlanOf task mode) (Same mode)
          (cost_in_system (system_of task)) (meaning.cost_of task)
          (λ p. (mode_law task mode p fits).0) (λ p. (mode_law task mode p fits).1) (cost_law task) plans h)),
      (λ h. right_as (meaning.IsPlanOf task mode) (IsSystemPlanOf (system_of task) mode) (Same mode) (meaning.cost_of task) (cost_in_system (system_of task))
          (λ p. (mode_law task mode p fits).1) (λ p. (mode_law task mode p fits).0) (λ p. sym (cost_law task p)) plans (f.0 h)),
    )

-- The laws of the ends.

pub listed_law : (task : TaskParts) (mode : Mode) (plans : List (List ℕ)) → Fits task
    → AllSystemPlansListed (system_of task) mode plans ↔ meaning.AllListed task mode plans
listed_law task mode plans fits = ((λ h p is. h p ((mode_law task mode p fits).1 is)), (λ h p is. h p ((mode_law task mode p fits).0 is)))

pub range_law : (task : TaskParts) (mode : Mode) (plans : List (List ℕ)) → Fits task
    → AllSystemPlansInRange (system_of task) mode plans ↔ meaning.AllInRange task mode plans
range_law task mode plans fits = (
  (λ h p is lt. h p ((mode_law task mode p fits).1 is) (subst (λ (n : ℕ). n < 2 ^ 64) (sym (cost_law task p)) lt)),
  (λ h p is lt. h p ((mode_law task mode p fits).0 is) (subst (λ (n : ℕ). n < 2 ^ 64) (cost_law task p) lt)),
)

pub dearer_law : (task : TaskParts) (mode : Mode) → Fits task → HasDearerSystemPlan (system_of task) mode ↔ meaning.HasDearer task mode
dearer_law task mode fits = (
  (λ h. (h.0, (mode_law task mode h.0 fits).0 h.1, subst (λ (n : ℕ). 2 ^ 64 ≤ n) (cost_law task h.0) h.2)),
  (λ h. (h.0, (mode_law task mode h.0 fits).1 h.1, subst (λ (n : ℕ). 2 ^ 64 ≤ n) (sym (cost_law task h.0)) h.2)),
)

-- The plans whose classes are left.
use Rattle.std.specs.Prelude.{◌≡◌, ℕ, Bool, List, Option, None, refl}
use Rattle.std.specs.Bool.{Decides}
use Rattle.symk_task.specs.declared.parts.Mode.TheVariants.{Unordered}
use Rattle.task_system.specs.System.{System, IsSystemPlanOf}
use Rattle.lazy_plans.specs.Law.{Fair, Last, Ended}
use Rattle.lazy_plans.specs.Told.{is_plan_in}
use Rattle.lazy_plans.proofs.Told.{in_told}
use Rattle.lazy_plans.specs.SelectorsOwe.{AreKeys, Unlisted, is_unlisted}
use Rattle.lazy_plans.proofs.Draws.{fair_unlisted, told_unlisted}
use Rattle.selectors.specs.Members.{HasPendingMember}

-- each plan of the system that is a rearrangement of no key
abbrev pub Left : System → List (List ℕ) → List ℕ → Type 0
Left y keys = Unlisted Unordered keys (IsSystemPlanOf y Unordered)

-- the same, computed
abbrev pub is_left : System → List (List ℕ) → List ℕ → Bool
is_left y keys = is_unlisted Unordered keys (is_plan_in y Unordered)

-- of each class that is left a member pends below
abbrev pub CoversClasses : System → List (List ℕ) → (List ℕ → Type 0) → Type 0
CoversClasses y keys below = (q : List ℕ) → Left y keys q → HasPendingMember below q

-- What every value meets between two calls. What is left has members below until a call has ended it.
pub record Sorting (ok : Type 0) (y : System) (most : Option ℕ) (below : List ℕ → Type 0) (keys : List (List ℕ)) (last : Last) : Type 0 where
  pub lawful : ok
  pub keyed : AreKeys y Unordered most keys
  pub covers : last ≡ None → CoversClasses y keys below
  pub ended : Ended y most (Left y keys) last

-- what is left is fair, and is computed

pub fair_left : (y : System) (most : Option ℕ) (keys : List (List ℕ)) → AreKeys y Unordered most keys → Fair y Unordered most (Left y keys)
fair_left y most keys ok = fair_unlisted y Unordered Unordered most keys (IsSystemPlanOf y Unordered) refl ok
    (record { members = λ p h. h; dearer = λ p h dear. h })

pub told_left : (y : System) (keys : List (List ℕ)) (p : List ℕ) → Decides (is_left y keys p) (Left y keys p)
told_left y keys p = told_unlisted Unordered keys (IsSystemPlanOf y Unordered) (is_plan_in y Unordered) p (in_told y Unordered p)

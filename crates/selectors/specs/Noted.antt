-- What becomes of the keys where a plan is noted.
use Rattle.std.specs.Prelude.{◌≡◌, ℕ, List, [], ◌∷◌, ◌++◌}
use Rattle.symk_task.specs.declared.parts.Mode.{Mode}
use Rattle.symk_task.specs.Plans.{IsListed}
use Rattle.lazy_plans.specs.SelectorsOwe.{IsClassKey}

-- The plan was new, and its key is the last one now.
pub record IsPlanNoted (mode : Mode) (old new : List (List ℕ)) (p : List ℕ) : Type 0 where
  pub key : List ℕ
  pub is : IsClassKey mode p key
  pub fresh : ¬ IsListed mode old p
  pub more : new ≡ old ++ key ∷ []

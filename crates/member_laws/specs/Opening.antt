-- A prefix of the queue is opened.
use Rattle.std.specs.Prelude.{ℕ, ◌<◌, ◌⊎◌, Bool, IsTrue, List, [], ◌∷◌, ◌++◌}
use Rattle.task_system.specs.System.{State, System, Listed, RunsInSystem}
use Rattle.stubborn_sets.specs.Stubborn.{IsApplicable, Stubborn}
use Rattle.member_laws.specs.Nodes.{MetOrNone}

-- each operator below n that the set has and that applies where e ends: the longer prefix is among the children, or is
-- met, or no plan goes on from it
abbrev pub ReachedBelow : System → (ℕ → Bool) → List (List ℕ) → List (List ℕ) → List ℕ → State → ℕ → List (List ℕ)
    → Type 0
ReachedBelow y set opened queue e end n kids = (op : ℕ) → op < n → IsTrue (set op) → IsApplicable y op end
    → Listed kids (e ++ op ∷ []) ⊎ MetOrNone y opened queue (e ++ op ∷ [])

-- the prefix leads to a state, and its children are those by a set that is stubborn there
pub record Opening (y : System) (opened queue kids : List (List ℕ)) (e : List ℕ) : Type 0 where
  pub end : State
  pub runs : RunsInSystem y y.initial e end
  pub set : ℕ → Bool
  pub stubborn : Stubborn y set end
  pub reached : ReachedBelow y set opened queue e end y.operators kids

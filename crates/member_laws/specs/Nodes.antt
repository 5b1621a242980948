-- Prefixes of plans that lead to one node, and which of them were opened.
use Rattle.std.specs.Prelude.{◌≡◌, ℕ, ◌⊎◌, Bool, IsTrue, List, [], ◌∷◌, ◌++◌}
use Rattle.symk_task.specs.declared.parts.Mode.TheVariants.{TopK, Unordered}
use Rattle.symk_task.specs.Plans.{Same}
use Rattle.task_system.specs.System.{State, System, Listed, RunsInSystem, IsSystemPlan, cost_in_system}
use Rattle.lazy_plans.specs.Queue.{Hopeless}
use Rattle.stubborn_sets.specs.Stubborn.{IsApplicable, Stubborn}

-- both lists have the same operators, each as often, and lead from the initial state to one state
pub record JoinsAtNode (y : System) (x z : List ℕ) : Type 0 where
  pub same : Same Unordered x z
  pub end : State
  pub runs : RunsInSystem y y.initial x end
  pub other : RunsInSystem y y.initial z end

-- a member of the list joins x
abbrev pub IsJoinedAtNode : System → List (List ℕ) → List ℕ → Type 0
IsJoinedAtNode y es x = (z : List ℕ) × Listed es z × JoinsAtNode y x z

-- a prefix that was opened joins x, or one of the queue does
abbrev pub MetAtNode : System → List (List ℕ) → List (List ℕ) → List ℕ → Type 0
MetAtNode y opened queue x = IsJoinedAtNode y opened x ⊎ IsJoinedAtNode y queue x

-- the same, or no plan goes on from x
abbrev pub MetOrNone : System → List (List ℕ) → List (List ℕ) → List ℕ → Type 0
MetOrNone y opened queue x = MetAtNode y opened queue x ⊎ Hopeless y TopK x

-- The prefix leads to a state, and each operator of a set that is stubborn there goes on to a prefix that is met, or
-- from which no plan goes on.
pub record IsClosedPrefix (y : System) (opened queue : List (List ℕ)) (e : List ℕ) : Type 0 where
  pub end : State
  pub runs : RunsInSystem y y.initial e end
  pub set : ℕ → Bool
  pub stubborn : Stubborn y set end
  pub steps : (op : ℕ) → IsTrue (set op) → IsApplicable y op end → MetOrNone y opened queue (e ++ op ∷ [])

-- What holds between two turns: the empty prefix is met, and each that was opened is closed.
pub record CoversOpened (y : System) (opened queue : List (List ℕ)) : Type 0 where
  pub root : MetOrNone y opened queue []
  pub each : (e : List ℕ) → Listed opened e → IsClosedPrefix y opened queue e

-- a plan that joins no prefix that was opened
abbrev pub PendsNode : System → List (List ℕ) → List ℕ → Type 0
PendsNode y opened p = IsSystemPlan y p × ¬ IsJoinedAtNode y opened p

-- an entry of the queue goes on to a plan that joins p and costs the same
pub record GoesOnToJoin (y : System) (queue : List (List ℕ)) (p : List ℕ) : Type 0 where
  pub entry : List ℕ
  pub inside : Listed queue entry
  pub rest : List ℕ
  pub plan : IsSystemPlan y (entry ++ rest)
  pub joins : JoinsAtNode y p (entry ++ rest)
  pub cost : cost_in_system y (entry ++ rest) ≡ cost_in_system y p

-- A system of which every list of operators is a plan.
use Rattle.std.specs.Prelude.{ℕ, ◌<◌, ◌^◌, Bool, true, List, [], ◌∷◌, Some, All, IsTrue, nat_eq}
use Rattle.std.specs.Prelude.{None}
use Rattle.std.specs.List.{list_any}
use Rattle.std.specs.Cmp.Lexicographic.{pointwise}
use Rattle.task_system.specs.System.{System}
use Rattle.lazy_plans.specs.Law.{Last, Ended}

-- one state, where the goal holds, and in which each operator ends and costs nothing
abbrev pub free : System
free = record {
  initial = [];
  step = λ a s. Some s;
  goal = λ s. true;
  cost = λ a. 0;
  operators = 2 ^ 32;
  states = [] ∷ [];
}

-- whether the list is one of them
abbrev pub is_one_of : List (List ℕ) → List ℕ → Bool
is_one_of plans p = list_any (pointwise nat_eq p) plans

abbrev pub IsOneOf : List (List ℕ) → List ℕ → Type 0
IsOneOf plans p = IsTrue (is_one_of plans p)

-- What a script meets between two calls: its plans are lists of operators, and nothing is left once it said so.
pub record IsScript (plans : List (List ℕ)) (last : Last) : Type 0 where
  pub operators : All (All (λ a. a < 2 ^ 32)) plans
  pub ended : Ended free None (IsOneOf plans) last

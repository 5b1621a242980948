-- The texts of plans and of the ends of lists.
use Rattle.std.specs.Prelude.{ℕ, ◌==◌, ◌||◌, Bool, if◌then◌else◌, List, [], ◌∷◌, ◌++◌, slice_get, codes, decimal, flat_map}
use Rattle.std.specs.Option.{option_map_or}
use Rattle.std.specs.List.{list_all}
use Rattle.symk_task.specs.declared.parts.TaskParts.{TaskParts}
use Rattle.symk_task.specs.Plans.{cost_of}
use Rattle.plan_out.specs.declared.end.End.{End}
use Rattle.plan_out.specs.declared.end.End.TheVariants.{Reached, Exhausted, More, Bounded, CostRange}

-- a line of these bytes and a number
unfoldable pub numbered : List ℕ → ℕ → List ℕ
numbered word n = word ++ decimal n ++ 10 ∷ []

-- a space and an operator's number
abbrev pub spaced : ℕ → List ℕ
spaced op = 32 ∷ decimal op

-- the numbers of the operators
unfoldable pub ops_line : List ℕ → List ℕ
ops_line p = codes "; ops" ++ flat_map spaced p ++ 10 ∷ []

-- the operator's name in parentheses
unfoldable pub step_line : TaskParts → ℕ → List ℕ
step_line task op = 40 ∷ option_map_or (λ operator. operator.name) (slice_get task.operators op) [] ++ 41 ∷ 10 ∷ []

-- what the plan costs, and whether each operator of the task costs 1
unfoldable pub cost_line : ℕ → Bool → List ℕ
cost_line cost unit = codes "; cost = " ++ decimal cost ++ ((if unit then codes " (unit cost)" else codes " (general cost)") ++ 10 ∷ [])

-- each operator costs 1, by the metric
unfoldable pub is_unit : TaskParts → Bool
is_unit task = (task.metric == 0) || list_all (λ operator. operator.cost == 1) task.operators

-- The block of a plan, which is number i of its list.
unfoldable pub block : TaskParts → ℕ → List ℕ → List ℕ
block task i p = numbered (codes "; plan ") i ++ ops_line p ++ flat_map (step_line task) p ++ cost_line (cost_of task p) (is_unit task)

-- The line at the end of a list.
unfoldable pub end_line : End → List ℕ
end_line (Reached n) = numbered (codes "; reached ") n
end_line (Exhausted n) = numbered (codes "; exhausted ") n
end_line (More n) = numbered (codes "; more ") n
end_line (Bounded n) = numbered (codes "; bounded ") n
end_line CostRange = codes "; cost range" ++ 10 ∷ []

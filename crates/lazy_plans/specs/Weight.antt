-- How much is left to do with prefixes that pass no state twice.
use Rattle.std.specs.Prelude.{◌≡◌, ℕ, zero, suc, ◌+◌, ◌-◌, ◌≤◌, List, [], ◌∷◌, length}
use Rattle.std.specs.List.{AllByRecursion}
use Rattle.task_system.specs.System.{System}
use Rattle.lazy_plans.specs.Queue.{sum_ops}

-- how many prefixes stand in a whole tree of this depth, each below the first counted twice
abbrev pub tree : ℕ → ℕ → ℕ
tree n zero = 1
tree n (suc depth) = 1 + sum_ops n (λ op. 1 + tree n depth)

-- how much is left to do with one prefix
abbrev pub depth_left : System → List ℕ → ℕ
depth_left y e = tree y.operators (length y.states - length e)

-- how much is left to do with all
abbrev pub prefix_weight : System → List (List ℕ) → ℕ
prefix_weight y [] = 0
prefix_weight y (e ∷ es) = depth_left y e + prefix_weight y es

-- at most one for each operator, and each is longer than e by one
pub record AreLonger (y : System) (e : List ℕ) (kids : List (List ℕ)) : Type 0 where
  pub longer : AllByRecursion (λ k. length k ≡ length e + 1) kids
  pub few : length kids ≤ y.operators

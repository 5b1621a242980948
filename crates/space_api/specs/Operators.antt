-- Which operators may matter to a set.
use Rattle.std.specs.Prelude.{◌≡◌, ℕ, ◌<◌, List, length, slice_index, All, Contains}
use Rattle.std.specs.List.Sorted.{IsStrictlyIncreasing}
use Rattle.task_system.specs.System.{State, Leads}
use Rattle.space_api.specs.View.{View, Has}

-- 0, 1 and so on, so many numbers
pub record CountsTo (n : ℕ) (xs : List ℕ) : Type 0 where
  pub many : length xs ≡ n
  pub each : (k : ℕ) → k < n → slice_index xs k ≡ k

-- A rising list of operators that misses none that leads from some state to one of a.
pub record LeadInto {Set : Type 0} (v : View Set) (a : Set) (ops : List ℕ) : Type 0 where
  pub rising : IsStrictlyIncreasing ops
  pub known : All (λ op. op < v.system.operators) ops
  pub all : (op : ℕ) (s t : State) → Leads v.system op s t → Has v a t → Contains ops op

-- A rising list of operators that misses none that leads on from a state of a.
pub record LeadFrom {Set : Type 0} (v : View Set) (a : Set) (ops : List ℕ) : Type 0 where
  pub rising : IsStrictlyIncreasing ops
  pub known : All (λ op. op < v.system.operators) ops
  pub all : (op : ℕ) (s t : State) → Leads v.system op s t → Has v a s → Contains ops op

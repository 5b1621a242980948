-- Which operators may lead from states of a set, or into them.
use Rattle.std.specs.Prelude.{◌≡◌, ℕ, ◌<◌, Bool, true, List, [], length, slice_index_or, All, Contains}
use Rattle.std.specs.List.{list_all}
use Rattle.std.specs.List.Sorted.{IsStrictlyIncreasing}
use Rattle.symk_task.specs.declared.parts.TaskParts.{TaskParts}
use Rattle.task_system.specs.System.{Leads}
use Rattle.task_system.specs.Computed.{system_of}
use Rattle.bdd_table.specs.declared.node.Node.{Node}
use Rattle.bdd_table.specs.Diagram.{Bits, means}
use Rattle.var_order.specs.Layout.{Layout}
use Rattle.var_order.specs.Codes.{IsCode, IsStateOf}
use Rattle.bdd_sets.specs.Marks.{is_marked}

-- the numbers, rising, of those of the first so many lists all of whose places are marked
pub record AreChosen (marks : List Bool) (lists : List (List ℕ)) (n : ℕ) (ops : List ℕ) : Type 0 where
  pub rising : IsStrictlyIncreasing ops
  pub each : (op : ℕ) → op < n → list_all (is_marked marks) (slice_index_or lists op []) ≡ true → Contains ops op
  pub only : (k : ℕ) (d : ℕ) → k < length ops → (slice_index_or ops k d < n) × (list_all (is_marked marks) (slice_index_or lists (slice_index_or ops k d) []) ≡ true)

-- rising numbers below n that miss none of which P holds
pub record MissNone (n : ℕ) (P : ℕ → Type 0) (ops : List ℕ) : Type 0 where
  pub rising : IsStrictlyIncreasing ops
  pub known : All (λ op. op < n) ops
  pub all : (op : ℕ) → P op → Contains ops op

-- the set is true by some bits of the state
abbrev pub HasState : Layout → List Node → ℕ → List ℕ → Type 0
HasState o nodes set s = IsStateOf o s × ((b : Bits) × IsCode o 0 s b × (means nodes set b ≡ true))

-- the operator has a step from a state of the set
abbrev pub LeadsFrom : TaskParts → Layout → List Node → ℕ → ℕ → Type 0
LeadsFrom task o nodes set op = (s : List ℕ) × (t : List ℕ) × Leads (system_of task) op s t × HasState o nodes set s

-- the operator has a step into a state of the set
abbrev pub LeadsInto : TaskParts → Layout → List Node → ℕ → ℕ → Type 0
LeadsInto task o nodes set op = (s : List ℕ) × (t : List ℕ) × Leads (system_of task) op s t × HasState o nodes set t

-- Sets of the states in which something is so.
use Rattle.std.specs.Prelude.{◌≡◌, ℕ, ◌<◌, ◌↔◌, true, List, length, slice_index}
use Rattle.symk_task.specs.declared.parts.TaskParts.{TaskParts}
use Rattle.symk_task.specs.Variables.{IsState, HasLayer}
use Rattle.symk_task.specs.Derived.{Raised}
use Rattle.bdd_table.specs.declared.node.Node.{Node}
use Rattle.bdd_table.specs.Diagram.{Bits, means}
use Rattle.var_order.specs.Layout.{Layout}
use Rattle.var_order.specs.Codes.{IsCode}
use Rattle.bdd_sets.specs.Sets.{IsSetOfStates}

-- of each state, by all bits that are its code
abbrev pub EachState : TaskParts → Layout → (List ℕ → Bits → Type 0) → Type 0
EachState task o P = (s : List ℕ) (b : Bits) → IsState task s → IsCode o 0 s b → P s b

-- the Id is true by the bits of a state, whichever the other levels are, exactly where the statement holds of the state
abbrev pub IsTrueWhere : TaskParts → Layout → List Node → (List ℕ → Type 0) → ℕ → Type 0
IsTrueWhere task o nodes P id = EachState task o (λ s b. (means nodes id b ≡ true) ↔ P s)

-- a set of states for each variable
pub record AreSets (task : TaskParts) (o : Layout) (nodes : List Node) (roots : List ℕ) : Type 0 where
  pub each : length roots ≡ length task.variables
  pub known : (var : ℕ) → var < length roots → slice_index roots var < length nodes
  pub of_states : (var : ℕ) → var < length roots → IsSetOfStates o nodes (slice_index roots var)

-- that of a derived variable has exactly the states in which the rules of the task raise the variable
pub record AreRoots (task : TaskParts) (o : Layout) (nodes : List Node) (roots : List ℕ) : Type 0 where
  pub sets : AreSets task o nodes roots
  pub raised : (var layer : ℕ) → HasLayer task var layer → IsTrueWhere task o nodes (λ s. Raised task s var) (slice_index roots var)

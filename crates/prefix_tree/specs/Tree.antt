-- A tree of prefixes: which operators each has, and where it ends.
use Rattle.std.specs.Prelude.{◌≡◌, ℕ, zero, suc, ◌<◌, ◌≤◌, ◌⊎◌, List, [], ◌∷◌, ◌++◌, length, slice_index_or}
use Rattle.symk_task.specs.declared.parts.Mode.{Mode}
use Rattle.task_system.specs.System.{State, System, RunsInSystem}
use Rattle.lazy_plans.specs.Queue.{Good}
use Rattle.prefix_tree.specs.StateGraph.{numbered_state}
use Rattle.prefix_tree.specs.declared.tree.Node.{Node}

-- the operators of each prefix, after those of the ones so far
abbrev pub paths_on : List (List ℕ) → List Node → List (List ℕ)
paths_on sofar [] = sofar
paths_on sofar (n ∷ nodes) = paths_on (sofar ++ (slice_index_or sofar n.parent [] ++ n.op ∷ []) ∷ []) nodes

-- the operators of each prefix; the first has none
abbrev pub paths : List Node → List (List ℕ)
paths [] = []
paths (n ∷ nodes) = paths_on ([] ∷ []) nodes

-- those of the prefix at this place
abbrev pub path_at : List Node → ℕ → List ℕ
path_at nodes i = slice_index_or (paths nodes) i []

-- the prefix at place i is the empty one, or stands behind the one before it and is longer by its operator
abbrev pub IsLinked : List Node → ℕ → Node → Type 0
IsLinked nodes i n = ((i ≡ 0) × (path_at nodes i ≡ [])) ⊎ ((n.parent < i) × (path_at nodes i ≡ path_at nodes n.parent ++ n.op ∷ []))

abbrev pub AreLinked : List Node → Type 0
AreLinked nodes = (i : ℕ) (d : Node) → i < length nodes → IsLinked nodes i (slice_index_or nodes i d)

-- the number of the state where the prefix at this place ends
abbrev pub state_number_at : List Node → ℕ → ℕ
state_number_at [] i = 0
state_number_at (n ∷ nodes) zero = n.state
state_number_at (n ∷ nodes) (suc i) = state_number_at nodes i

-- that state
abbrev pub end_at : List State → List Node → ℕ → State
end_at ss nodes i = numbered_state ss (state_number_at nodes i)

-- the prefix runs as the mode asks, to the state of this number, and is no longer than its place
pub record IsNode (y : System) (m : Mode) (ss : List State) (i : ℕ) (p : List ℕ) (number : ℕ) : Type 0 where
  pub good : Good y m p
  pub within : number < length ss
  pub runs : RunsInSystem y y.initial p (numbered_state ss number)
  pub deep : length p ≤ i

-- each stands behind the one before it, and is so
pub record IsTree (y : System) (m : Mode) (ss : List State) (nodes : List Node) : Type 0 where
  pub some : 0 < length nodes
  pub linked : AreLinked nodes
  pub each : (i : ℕ) → i < length nodes → IsNode y m ss i (path_at nodes i) (state_number_at nodes i)

-- prefixes were added
pub record GrowsTree (y : System) (m : Mode) (ss : List State) (old new : List Node) : Type 0 where
  pub longer : length old ≤ length new
  pub paths : (i : ℕ) → i < length old → path_at new i ≡ path_at old i
  pub ends : (i : ℕ) → i < length old → state_number_at new i ≡ state_number_at old i
  pub tree : IsTree y m ss new

-- What a search back tells of what is left from a state.
use Rattle.std.specs.Prelude.{Option, Some, None}
use Rattle.task_system.specs.System.{State, System}
use Rattle.space_api.specs.View.{View}
use Rattle.cost_layers.specs.Layers.{known_of}
use Rattle.cost_search.specs.Search.{layers_of}
use Rattle.cost_search.specs.Directed.{Backward, IsBackward, search_of}
use Rattle.prefix_tree.specs.StateGraph.{states_of, IsStateGraph}
use Rattle.prefix_tree.specs.declared.state_graph.StateGraph.{StateGraph}
use Rattle.loopless.specs.Left.{IsWide, RestCostsAtLeast}
use Rattle.loopless.specs.Rests.{IsRestFrom, AreKeptRests}
use Rattle.loopless.specs.declared.left.Heuristic.{Heuristic}
use Rattle.loopless.specs.declared.rests.Rest.{Rest}
use Rattle.loopless.specs.declared.rests.Rests.{Rests}

-- what is left from s, or no less than the search knows
abbrev pub IsTold : {Set : Type 0} → System → Backward Set → State → Option Rest → Type 0
IsTold y b s None = RestCostsAtLeast y s (known_of (layers_of (search_of b)))
IsTold y b s (Some r) = IsRestFrom y s r

-- the search back stands and is wide, the graph of states stands, and what is kept is left from its states
pub record IsInformed {Set : Type 0} (v : View Set) (b : Backward Set) (m : StateGraph) (k : Rests) : Type 0 where
  pub backward : IsBackward v b
  pub wide : IsWide v b
  pub graph : IsStateGraph v.system m
  pub kept : AreKeptRests v.system (states_of m) k

-- so, of what is lent together
abbrev pub Informs : {S Set : Type 0} → (S → View Set) → Heuristic S Set → Rests → Type 0
Informs view h k = IsInformed (view h.space.now) h.backward.now h.graph.now k

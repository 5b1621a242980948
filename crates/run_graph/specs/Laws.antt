-- The laws of layers and shut sets, over layers and sets that tests tell.
use Rattle.std.specs.Prelude.{ℕ, ◌<◌, ◌↔◌, Bool, IsTrue, IsFalse}
use Rattle.task_system.specs.System.{State, System}
use Rattle.run_graph.specs.Graph.{seen_from}
use Rattle.run_graph.specs.Layering.{At, InLayer, RightLayer, Seeds, NewLayer, IsRoom, AddsLayer, CutsLayers}
use Rattle.run_graph.specs.Settling.{IsShut, PastAt, IsSettled, Reopens}
use Rattle.run_graph.specs.Reached.{Useful, IsRightLayer, ReachedInside}
use Rattle.run_graph.specs.declared.Side.{Side}
use Rattle.run_graph.specs.declared.Kind.{Kind}

-- layers by a test
abbrev pub Places : Type 0
Places = ℕ → ℕ → State → Bool

abbrev pub told : Places → At
told at = λ c i s. IsTrue (at c i s)

abbrev pub of : {A : Type 0} → (A → Bool) → A → Type 0
of test x = IsTrue (test x)

-- a right layer of the graph is one of the system
abbrev pub RightLayersAreTheSystems : Type 0
RightLayersAreTheSystems = (side : Side) (k : Kind) (y : System) (at : Places) (c : ℕ) → RightLayer (seen_from side y) k (told at) c ↔ IsRightLayer side k y (told at) c

-- settled layers are right, where the useful states are not cut off
abbrev pub SettledLayersAreRight : Type 0
SettledLayersAreRight = (side : Side) (k : Kind) (y : System) (within : State → Bool) (at : Places) (opens : ℕ → Bool) (beyond : Bool) (known : ℕ)
    → IsSettled (seen_from side y) k (of within) (told at) (of opens) beyond known
    → ((s : State) → Useful y s → IsTrue (within s))
    → (c : ℕ) → c < known → IsRightLayer side k y (told at) c

-- the least open cost can be settled: with a new layer the layers are settled below the next open cost
abbrev pub OneMoreCostIsSettled : Type 0
OneMoreCostIsSettled = (side : Side) (k : Kind) (y : System) (within room : State → Bool) (at more : Places) (row : ℕ → State → Bool) (opens after : ℕ → Bool) (beyond later : Bool) (x next : ℕ)
    → IsSettled (seen_from side y) k (of within) (told at) (of opens) beyond x
    → AddsLayer (told at) (told more) x (λ i s. IsTrue (row i s))
    → NewLayer (seen_from side y) (of room) (Seeds (seen_from side y) (told at) x) (λ i s. IsTrue (row i s))
    → IsRoom k (told at) (of within) (of room) x
    → Reopens (seen_from side y) x next (λ i s. IsTrue (row i s)) (of opens) (of after)
    → (IsFalse later → IsFalse beyond × ¬ PastAt (seen_from side y) (of within) (λ c i s. IsTrue (row i s)) x)
    → IsSettled (seen_from side y) k (of within) (told more) (of after) later next

-- layers may be cut: the open costs, the bound and the mark stay
abbrev pub NarrowingKeepsLayers : Type 0
NarrowingKeepsLayers = (side : Side) (k : Kind) (y : System) (within useful : State → Bool) (at cut : Places) (opens : ℕ → Bool) (beyond : Bool) (known : ℕ)
    → CutsLayers (told at) (told cut) (of useful)
    → IsSettled (seen_from side y) k (of within) (told at) (of opens) beyond known
    → IsSettled (seen_from side y) k (λ s. IsTrue (within s) × IsTrue (useful s)) (told cut) (of opens) beyond known

-- where no cost is open and none was past the range, the union of the layers is shut
abbrev pub ClosedLayersAreShut : Type 0
ClosedLayersAreShut = (side : Side) (k : Kind) (y : System) (within : State → Bool) (at : Places) (opens : ℕ → Bool) (known : ℕ) (beyond : Bool)
    → IsSettled (seen_from side y) k (of within) (told at) (of opens) beyond known
    → ((c : ℕ) → ¬ IsTrue (opens c)) → IsFalse beyond
    → IsShut (seen_from side y) (of within) (λ s. (c : ℕ) × InLayer (told at) c s)

-- a shut set has every state that is reached, or leads to the goal, inside
abbrev pub ShutSetsHaveAll : Type 0
ShutSetsHaveAll = (side : Side) (y : System) (within shut : State → Bool)
    → IsShut (seen_from side y) (of within) (of shut)
    → (s : State) → ReachedInside side y (of within) s → IsTrue (shut s)

-- What leads on from a state, where so much of the cost is left.
use Rattle.std.specs.Prelude.{◌≡◌, ℕ, ◌-◌, ◌^◌, ◌<◌, ◌≤◌, ◌↔◌, IsTrue, Bool, List, map, Option, Some, None}
use Rattle.std.specs.List.{All, Contains}
use Rattle.std.specs.List.Sorted.{IsStrictlyIncreasing}
use Rattle.task_system.specs.System.{State, Leads}
use Rattle.space_api.specs.View.{View, Has}
use Rattle.cost_layers.specs.Layers.{union_at}
use Rattle.cost_layers.specs.declared.layers.Layers.{Layers}
use Rattle.reconstruct.specs.Ways.{IsFirstRing}
use Rattle.reconstruct.specs.declared.moves.Move.{Move}

-- the operator doesn't lead into the layer of what is left
abbrev pub LeadsNotOn : {Set : Type 0} → View Set → Layers Set → ℕ → State → ℕ → Type 0
LeadsNotOn {Set} v back cost s op = (a : Set) (t : State) → v.system.cost op ≤ cost
    → union_at back (cost - v.system.cost op) ≡ Some a → Leads v.system op s t → ¬ Has v a t

-- the move's operator leads into the layer of what is left, and its ring is the first that has the state
pub record IsMove {Set : Type 0} (v : View Set) (back : Layers Set) (cost : ℕ) (s : State) (m : Move) : Type 0 where
  pub number : m.op < v.system.operators
  pub fits : v.system.cost m.op ≤ cost
  pub cost_is : m.cost ≡ cost - v.system.cost m.op
  pub leads : Leads v.system m.op s m.state
  pub lands : (a : Set) × (union_at back (cost - v.system.cost m.op) ≡ Some a) × Has v a m.state
  pub least : IsFirstRing v back (cost - v.system.cost m.op) m.state m.ring
  pub small : m.ring < 2 ^ 64

-- the move by the operator, or None where it doesn't lead on
abbrev pub FoundMove : {Set : Type 0} → View Set → Layers Set → ℕ → State → ℕ → Option Move → Type 0
FoundMove v back cost s op None = LeadsNotOn v back cost s op
FoundMove v back cost s op (Some m) = (m.op ≡ op) × IsMove v back cost s m

-- the operators of the moves
abbrev pub ops_of : List Move → List ℕ
ops_of ms = map (λ m. m.op) ms

-- all moves from the state, in the order of their operators: one by each operator that leads on, and none by another
pub record AreMoves {Set : Type 0} (v : View Set) (back : Layers Set) (cost : ℕ) (s : State) (moves : List Move) : Type 0 where
  pub rising : IsStrictlyIncreasing (ops_of moves)
  pub each : All (IsMove v back cost s) moves
  pub others : (op : ℕ) → op < v.system.operators → ¬ Contains (ops_of moves) op → LeadsNotOn v back cost s op

-- nothing is left to place, and the state is a goal
abbrev pub IsEnd : {Set : Type 0} → View Set → ℕ → State → Type 0
IsEnd v cost s = (cost ≡ 0) × IsTrue (v.system.goal s)

-- all that follows of the pair: its moves, and whether a plan ends there
pub record AreSuccessors {Set : Type 0} (v : View Set) (back : Layers Set) (cost : ℕ) (s : State) (moves : List Move) (ends : Bool) : Type 0 where
  pub all : AreMoves v back cost s moves
  pub end : IsTrue ends ↔ IsEnd v cost s

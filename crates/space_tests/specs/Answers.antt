-- When two spaces answer alike.
use Rattle.std.specs.Prelude.{◌≡◌, ◌↔◌, ◌<◌, ℕ, Bool, IsTrue, List, [], ◌∷◌, ◌++◌, All}
use Rattle.task_system.specs.System.{State, System}
use Rattle.space_api.specs.View.{View, IsEmpty, HasSame}
use Rattle.space_api.specs.Costs.{costs_of}
use Rattle.space_tests.specs.declared.pairs.Pair.{Pair}
use Rattle.space_tests.specs.Pairs.{MakesPair}

-- the systems have equally many operators, each at the same cost
pub record HaveSameOperators (y z : System) : Type 0 where
  pub count : y.operators ≡ z.operators
  pub cost : (op : ℕ) → op < y.operators → y.cost op ≡ z.cost op

-- the systems have the same different costs
abbrev pub HaveSameCosts : System → System → Type 0
HaveSameCosts y z = costs_of y ≡ costs_of z

-- the pair's sets are empty both or neither, and have the initial state both or neither
pub record IsSameAlone {S T : Type 0} (v : View S) (w : View T) (p : Pair S T) : Type 0 where
  pub empty : IsEmpty v p.left ↔ IsEmpty w p.right
  pub initial : v.has p.left v.system.initial ≡ w.has p.right w.system.initial

-- the pair's sets are equal to those of the other pair both or neither
abbrev pub IsSameBeside : {S T : Type 0} → View S → View T → Pair S T → Pair S T → Type 0
IsSameBeside v w p other = HasSame v p.left other.left ↔ HasSame w p.right other.right

-- both spaces answer alike about the pair, by itself and beside each of the others
pub record AnswerAlike {S T : Type 0} (v : View S) (w : View T) (pairs : List (Pair S T)) (p : Pair S T) : Type 0 where
  pub alone : IsSameAlone v w p
  pub beside : All (IsSameBeside v w p) pairs

-- A call on each space gave a pair that stands behind the old ones, and the answer is whether the spaces answer alike about it.
pub record Compares {S T : Type 0} (v v2 : View S) (w w2 : View T) (P Q : State → Type 0) (old new : List (Pair S T)) (told : Bool) : Type 0 where
  pub pair : Pair S T
  pub made : MakesPair v v2 w w2 P Q pair
  pub kept : new ≡ old ++ pair ∷ []
  pub answer : IsTrue told ↔ AnswerAlike v2 w2 old pair

-- Moves that are remembered.
use Rattle.std.specs.Prelude.{◌≡◌, ℕ, ◌⊎◌, ◌↔◌, IsTrue, Bool, List, Option, Some}
use Rattle.std.specs.List.{Contains}
use Rattle.task_system.specs.System.{State}
use Rattle.space_api.specs.View.{View}
use Rattle.cost_layers.specs.declared.layers.Layers.{Layers}
use Rattle.reconstruct.specs.Moves.{IsEnd, AreSuccessors}
use Rattle.reconstruct.specs.declared.moves.Move.{Move}
use Rattle.reconstruct.specs.declared.expansions.Expansion.{Expansion}
use Rattle.reconstruct.specs.declared.expansions.Expansions.{Expansions}

-- a place has these moves for the pair of the cost and the state, and whether a plan ends there
abbrev pub IsAmongPlaces : List (Option Expansion) → ℕ → State → List Move → Bool → Type 0
IsAmongPlaces places cost s moves ends = (e : Expansion) × Contains places (Some e) × (e.cost ≡ cost) × (e.state ≡ s)
    × (e.moves.items ≡ moves) × (e.ends ≡ ends)

abbrev pub Remembers : Expansions → ℕ → State → List Move → Bool → Type 0
Remembers x cost s moves ends = IsAmongPlaces x.places.items cost s moves ends

-- nothing is remembered
abbrev pub RemembersNone : Expansions → Type 0
RemembersNone x = (cost : ℕ) (s : State) (moves : List Move) (ends : Bool) → ¬ Remembers x cost s moves ends

-- nothing is remembered that wasn't
abbrev pub Forgets : Expansions → Expansions → Type 0
Forgets x z = (cost : ℕ) (s : State) (moves : List Move) (ends : Bool) → Remembers z cost s moves ends → Remembers x cost s moves ends

-- nothing is remembered that wasn't, but these moves for the pair, and whether a plan ends there
abbrev pub RemembersToo : Expansions → Expansions → ℕ → State → List Move → Bool → Type 0
RemembersToo x z cost s moves ends = (cost2 : ℕ) (s2 : State) (moves2 : List Move) (ends2 : Bool) → Remembers z cost2 s2 moves2 ends2 → Remembers x cost2 s2 moves2 ends2 ⊎ ((cost ≡ cost2) × (s ≡ s2) × (moves ≡ moves2) × (ends ≡ ends2))

-- nothing is remembered that wasn't, but what these places have
abbrev pub RemembersFrom : Expansions → Expansions → List (Option Expansion) → Type 0
RemembersFrom x z places = (cost : ℕ) (s : State) (moves : List Move) (ends : Bool) → Remembers z cost s moves ends
    → Remembers x cost s moves ends ⊎ IsAmongPlaces places cost s moves ends

-- what is remembered for a pair is all its moves, and only those, and whether a plan ends there
abbrev pub AreRightExpansions : {Set : Type 0} → View Set → Layers Set → Expansions → Type 0
AreRightExpansions v back x = (cost : ℕ) (s : State) (moves : List Move) (ends : Bool) → Remembers x cost s moves ends → AreSuccessors v back cost s moves ends

-- of whatever layers: it is right whether a plan ends there
abbrev pub TellEnds : {Set : Type 0} → View Set → Expansions → Type 0
TellEnds v x = (cost : ℕ) (s : State) (moves : List Move) (ends : Bool) → Remembers x cost s moves ends → IsTrue ends ↔ IsEnd v cost s

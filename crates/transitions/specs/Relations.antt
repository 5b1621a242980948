-- Sets of states and of steps, as truth functions of bits.
use Rattle.std.specs.Prelude.{◌≡◌, ℕ, ◌↔◌, Bool, true, List}
use Rattle.bdd_table.specs.Diagram.{Bits}
use Rattle.var_order.specs.Layout.{Layout, IsLayout}
use Rattle.var_order.specs.Codes.{IsCode, IsStateOf}
use Rattle.transitions.specs.Levels.{stepped}

-- F holds for the bits of each member, and for no others
abbrev pub Names : Layout → (List ℕ → Type 0) → (Bits → Bool) → Type 0
Names o S F = (b : Bits) → (F b ≡ true) ↔ ((s : List ℕ) × IsStateOf o s × IsCode o 0 s b × S s)

-- F holds for some bits of the state
abbrev pub HoldsForState : Layout → (Bits → Bool) → List ℕ → Type 0
HoldsForState o F s = (b : Bits) × IsCode o 0 s b × (F b ≡ true)

-- F is a set of states: it holds for all bits of those of which it holds for some bits, and for no others
abbrev pub IsSet : Layout → (Bits → Bool) → Type 0
IsSet o F = Names o (HoldsForState o F) F

-- the bits are those of a state and, at the next levels of the touched places, of a state that R relates it to
abbrev pub IsStepOf : Layout → List ℕ → (List ℕ → List ℕ → Type 0) → Bits → Type 0
IsStepOf o places R b = (s : List ℕ) × (t : List ℕ) × IsStateOf o s × IsStateOf o t × IsCode o 0 s b × IsCode o 0 t (stepped places b) × R s t

-- F holds for some bits of the step from one state to the other
abbrev pub Connects : Layout → List ℕ → (Bits → Bool) → List ℕ → List ℕ → Type 0
Connects o places F s t = (b : Bits) × IsCode o 0 s b × IsCode o 0 t (stepped places b) × (F b ≡ true)

-- F is a set of steps that touch these places alone: it holds for all bits of those of which it holds for some bits, and for no others
abbrev pub IsStepSet : Layout → List ℕ → (Bits → Bool) → Type 0
IsStepSet o places F = (b : Bits) → (F b ≡ true) ↔ IsStepOf o places (Connects o places F) b

-- F holds for the bits of each step of R, each of which has bits, and for no others. So R changes no bit but at the touched places.
pub record Relates (o : Layout) (places : List ℕ) (R : List ℕ → List ℕ → Type 0) (F : Bits → Bool) : Type 0 where
  pub holds : (b : Bits) → (F b ≡ true) ↔ IsStepOf o places R b
  pub has_bits : (s t : List ℕ) → IsStateOf o s → IsStateOf o t → R s t → (b : Bits) × IsCode o 0 s b × IsCode o 0 t (stepped places b)

-- a relation and a set over the bits of one order
pub record AreOver (o : Layout) (places : List ℕ) (relation set : Bits → Bool) : Type 0 where
  pub layout : IsLayout o
  pub steps : IsStepSet o places relation
  pub states : IsSet o set

-- the states to which the relation leads from a member of the set
abbrev pub Successor : Layout → List ℕ → (Bits → Bool) → (Bits → Bool) → List ℕ → Type 0
Successor o places relation set t = (s : List ℕ) × IsStateOf o s × HoldsForState o set s × Connects o places relation s t

-- the states from which the relation leads to a member of the set
abbrev pub Predecessor : Layout → List ℕ → (Bits → Bool) → (Bits → Bool) → List ℕ → Type 0
Predecessor o places relation set s = (t : List ℕ) × IsStateOf o t × HoldsForState o set t × Connects o places relation s t

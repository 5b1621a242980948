-- Which states a set has.
use Rattle.std.specs.Prelude.{◌≡◌, ℕ, ◌/◌, ◌%◌, ◌<◌, true, ◌==◌, nat_lt, ◌&&◌, List}
use Rattle.bdd_table.specs.declared.node.Node.{Node}
use Rattle.bdd_table.specs.Diagram.{Bits, means}
use Rattle.var_order.specs.Layout.{Layout, bits, level_at}
use Rattle.var_order.specs.Codes.{IsCode, IsStateOf}

-- the set has the state: it holds for the state's bits, whatever the other levels
abbrev pub HasCodedState : Layout → List Node → ℕ → List ℕ → Type 0
HasCodedState o nodes set s = (b : Bits) → IsCode o 0 s b → means nodes set b ≡ true

-- the bits are those of some state
abbrev pub IsOfState : Layout → Bits → Type 0
IsOfState o b = (s : List ℕ) × IsStateOf o s × IsCode o 0 s b

-- what the set holds for turns on the levels of the state's bits alone
abbrev pub IsSetOfStates : Layout → List Node → ℕ → Type 0
IsSetOfStates o nodes set = (b c : Bits) → ((place : ℕ) → place < bits o → b (level_at 0 place) ≡ c (level_at 0 place)) → means nodes set b ≡ means nodes set c

-- the bits of the state, and false at every other level
abbrev pub only_state_bits : Layout → Bits → Bits
only_state_bits o b level = ((level % 2 == 0) && nat_lt (level / 2) (bits o)) && b level

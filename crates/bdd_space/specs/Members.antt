-- Which states an Id has, and what an Id that stands for a set of states is.
use Rattle.std.specs.Prelude.{◌≡◌, ℕ, ◌+◌, ◌-◌, ◌/◌, ◌<◌, ◌==◌, nat_lt, Bool, true, false, ◌&&◌, List, [], ◌∷◌, length, slice_index}
use Rattle.std.specs.Int.{bit_at}
use Rattle.bdd_table.specs.declared.node.Node.{Node}
use Rattle.bdd_table.specs.Diagram.{Bits, means}
use Rattle.var_order.specs.declared.block.Block.{Block}
use Rattle.var_order.specs.Layout.{Layout, block_at, owner_at}
use Rattle.transitions.specs.Relations.{Names, IsSet}

-- the digit of the state that stands at a place
abbrev pub digit : Layout → List ℕ → ℕ → ℕ
digit o s place = bit_at (slice_index s (owner_at o place)) ((block_at o (owner_at o place)).first + (block_at o (owner_at o place)).width - 1 - place)

-- the bits that the order gives the state
unfoldable pub code_of : Layout → List ℕ → Bits
code_of o s level = digit o s (level / 2) == 1

-- whether the list has one value for each block, in its range
unfoldable pub is_state : List Block → List ℕ → Bool
is_state [] [] = true
is_state [] (x ∷ s) = false
is_state (block ∷ blocks) [] = false
is_state (block ∷ blocks) (x ∷ s) = nat_lt x block.values && is_state blocks s

-- Whether the Id has the state: it is true by the state's bits. A list that is no state is in no set, whichever bits it has.
unfoldable pub has_state : Layout → List Node → ℕ → List ℕ → Bool
has_state o nodes id s = is_state o.blocks s && means nodes id (code_of o s)

-- the Id is known to the table, and is a set of states
pub record IsKnownSet (o : Layout) (nodes : List Node) (id : ℕ) : Type 0 where
  pub known : id < length nodes
  pub set : IsSet o (means nodes id)

-- the Id is known to the table, and has exactly the states of which P holds
pub record HasThose (o : Layout) (nodes : List Node) (P : List ℕ → Type 0) (id : ℕ) : Type 0 where
  pub known : id < length nodes
  pub names : Names o P (means nodes id)

-- the Id of the new list is known, and means what the Id of the old list means
pub record MeansAs (old : List Node) (id : ℕ) (new : List Node) (place : ℕ) : Type 0 where
  pub known : place < length new
  pub meaning : (b : Bits) → means new place b ≡ means old id b

-- Marks of values, and Ids by which bits are found.
use Rattle.std.specs.Prelude.{◌≡◌, ℕ, ◌+◌, ◌<◌, Bool, true, List, length, slice_index_or, Contains, All}
use Rattle.bdd_table.specs.declared.node.Node.{Node}
use Rattle.bdd_table.specs.Diagram.{Bits, means}
use Rattle.var_order.specs.declared.block.Block.{Block}
use Rattle.var_order.specs.Codes.{number}

-- the place is marked, or the list has no such place
abbrev pub is_marked : List Bool → ℕ → Bool
is_marked marks place = slice_index_or marks place true

-- what was marked is marked
abbrev pub KeepsMarks : List Bool → List Bool → Type 0
KeepsMarks old new = (place : ℕ) → is_marked old place ≡ true → is_marked new place ≡ true

-- the value that the bits of the block spell
abbrev pub block_value : Block → Bits → ℕ
block_value block b = number b 0 block.first block.width

-- one of the Ids is true by these bits
abbrev pub SomeHolds : List Node → List ℕ → Bits → Type 0
SomeHolds nodes ids b = (id : ℕ) × Contains ids id × (means nodes id b ≡ true)

-- The new Ids are what is left of the old ones below a block of bits whose marks begin at `start`. The value of each code that one
-- of the old Ids is true by is marked, and one of the new Ids is true by it.
pub record PassesBlock (nodes : List Node) (block : Block) (start : ℕ) (ids next : List ℕ) (old new : List Bool) : Type 0 where
  pub kept : KeepsMarks old new
  pub known : All (λ id. id < length nodes) next
  pub found : (b : Bits) → block_value block b < block.values → SomeHolds nodes ids b
      → (is_marked new (start + block_value block b) ≡ true) × SomeHolds nodes next b

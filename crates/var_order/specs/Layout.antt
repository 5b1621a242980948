-- Where the bits of a state's values stand.
use Rattle.std.specs.Prelude.{◌≡◌, ℕ, ◌+◌, ◌*◌, ◌<◌, ◌≤◌, List, Option, Some, None, IsSome, IfSome, length, slice_get, slice_index, slice_index_or, count_by, sum_by}
use Rattle.std.specs.Option.{option_map_or}
use Rattle.symk_task.specs.declared.parts.Variable.{Variable}
use Rattle.symk_task.specs.declared.parts.TaskParts.{TaskParts}
use Rattle.symk_task.specs.Variables.{is_base, range, width, place}
use Rattle.symk_task.specs.Fits.{bits_of}
use Rattle.var_order.specs.declared.block.Block.{Block}

-- For each variable which value of a state is its, if it is a base variable; for each value of a state its block of bits;
-- and for each place the value whose bit stands there.
pub record Layout : Type 0 where
  pub slots : List (Option ℕ)
  pub blocks : List Block
  pub owners : List ℕ

-- a block with no bits, which stands for those past the end
abbrev pub no_block : Block
no_block = record { first = 0; width = 0; values = 0 }

-- which value of a state is that of the variable, if it is a base variable
abbrev pub slot_of : Layout → ℕ → Option ℕ
slot_of o var = slice_index_or o.slots var None

-- the bits of a value of a state
abbrev pub block_at : Layout → ℕ → Block
block_at o slot = slice_index_or o.blocks slot no_block

-- the value whose bit stands at the place
abbrev pub owner_at : Layout → ℕ → ℕ
owner_at o place = slice_index o.owners place

-- how many bits a state has
abbrev pub bits : Layout → ℕ
bits o = length o.owners

-- the bits of a variable: none if it is a derived one
abbrev pub block_of : Layout → ℕ → Block
block_of o var = option_map_or (block_at o) (slot_of o var) no_block

-- how many bits a variable has
abbrev pub width_of : Layout → ℕ → ℕ
width_of o var = (block_of o var).width

-- the place of a variable's bit, 0 being its highest
abbrev pub place_of : Layout → ℕ → ℕ → ℕ
place_of o var bit = (block_of o var).first + bit

-- the level of a place: `next` is 0 for the state, and 1 for the state that an operator leads to
abbrev pub level_at : ℕ → ℕ → ℕ
level_at next place = 2 * place + next

-- The block has as many bits as its values need, and as many values as a variable may have.
pub record IsSized (block : Block) : Type 0 where
  pub bits : block.width ≡ width block.values
  pub some : 1 ≤ block.values
  pub most : block.values ≤ 65536

-- The place is one of the bits of the block.
pub record IsInside (block : Block) (place : ℕ) : Type 0 where
  pub from : block.first ≤ place
  pub before : place < block.first + block.width

-- Blocks share no place and leave none out, and each is that of one variable.
pub record IsLayout (o : Layout) : Type 0 where
  pub sum : bits o ≡ sum_by (λ (block : Block). block.width) o.blocks
  pub most : bits o ≤ 65536
  pub sized : (slot : ℕ) → slot < length o.blocks → IsSized (block_at o slot)
  pub owned : (slot place : ℕ) → IsInside (block_at o slot) place → (place < bits o) × (owner_at o place ≡ slot)
  pub inside : (place : ℕ) → place < bits o → (owner_at o place < length o.blocks) × IsInside (block_at o (owner_at o place)) place
  pub slots : (var slot : ℕ) → slot_of o var ≡ Some slot → slot < length o.blocks
  pub one : (u v slot : ℕ) → slot_of o u ≡ Some slot → slot_of o v ≡ Some slot → u ≡ v
  pub used : (slot : ℕ) → slot < length o.blocks → (var : ℕ) × (slot_of o var ≡ Some slot)

-- The variable is a base variable whose value and range these are, or it is a derived one and has no value in a state.
pub record IsLaid (o : Layout) (var slot : ℕ) (v : Variable) : Type 0 where
  pub base : v.layer ≡ None → slot_of o var ≡ Some slot
  pub values : v.layer ≡ None → (block_at o slot).values ≡ range v
  pub derived : IsSome v.layer → slot_of o var ≡ None

-- The layout is one of the task's states: each base variable has its value in them, and bits for the values of its range.
pub record IsOrderOf (task : TaskParts) (o : Layout) : Type 0 where
  pub layout : IsLayout o
  pub variables : length o.slots ≡ length task.variables
  pub blocks : length o.blocks ≡ count_by is_base task.variables
  pub bits : bits o ≡ sum_by bits_of task.variables
  pub each : (var : ℕ) → IfSome (slice_get task.variables var) (IsLaid o var (place task var))

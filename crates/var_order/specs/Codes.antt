-- Which bits a state has.
use Rattle.std.specs.Prelude.{◌≡◌, ℕ, zero, suc, ◌+◌, ◌^◌, ◌<◌, Bool, if◌then◌else◌, List, length, slice_index}
use Rattle.std.specs.Option.{option_map_or}
use Rattle.var_order.specs.Layout.{Layout, slot_of, block_at, block_of, level_at}

-- the number that the bits from a place on spell, the highest first
unfoldable pub number : (ℕ → Bool) → ℕ → ℕ → ℕ → ℕ
number b next place zero = 0
number b next place (suc width) = (if b (level_at next place) then 2 ^ width else 0) + number b next (place + 1) width

-- the number that the bits of a value of a state spell: `next` is 0 for the state, and 1 for the state that an operator leads to
abbrev pub value_at : Layout → ℕ → (ℕ → Bool) → ℕ → ℕ
value_at o next b slot = number b next (block_at o slot).first (block_at o slot).width

-- the number that the bits of a variable spell
abbrev pub spelt_value : Layout → ℕ → (ℕ → Bool) → ℕ → ℕ
spelt_value o next b var = number b next (block_of o var).first (block_of o var).width

-- the value of a base variable in a state
abbrev pub coded_value : Layout → List ℕ → ℕ → ℕ
coded_value o s var = option_map_or (λ slot. slice_index s slot) (slot_of o var) 0

-- The bits are those of the state: each value of it is what its bits spell.
pub record IsCode (o : Layout) (next : ℕ) (s : List ℕ) (b : ℕ → Bool) : Type 0 where
  pub each : length s ≡ length o.blocks
  pub values : (slot : ℕ) → slot < length o.blocks → value_at o next b slot ≡ slice_index s slot

-- each value that the bits spell is in its range
abbrev pub IsInRange : Layout → ℕ → (ℕ → Bool) → Type 0
IsInRange o next b = (slot : ℕ) → slot < length o.blocks → value_at o next b slot < (block_at o slot).values

-- One value for each block, in its range.
pub record IsStateOf (o : Layout) (s : List ℕ) : Type 0 where
  pub each : length s ≡ length o.blocks
  pub in_range : (slot : ℕ) → slot < length o.blocks → slice_index s slot < (block_at o slot).values

-- the state has bits, at either kind of level
abbrev pub HasCode : Layout → List ℕ → Type 0
HasCode o s = (b : ℕ → Bool) × IsCode o 0 s b × IsCode o 1 s b

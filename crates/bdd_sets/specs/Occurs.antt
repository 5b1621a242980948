-- Which values occur in a set.
use Rattle.std.specs.Prelude.{◌≡◌, ℕ, ◌+◌, ◌<◌, ◌^◌, Bool, true, List, length, slice_index, All, Contains}
use Rattle.bdd_table.specs.declared.node.Node.{Node}
use Rattle.bdd_table.specs.Diagram.{Bits, means}
use Rattle.var_order.specs.declared.block.Block.{Block}
use Rattle.var_order.specs.Layout.{Layout, block_at}
use Rattle.var_order.specs.Codes.{value_at, IsInRange}
use Rattle.bdd_sets.specs.declared.occurring.Places.{Places}
use Rattle.bdd_sets.specs.Marks.{is_marked}

-- each block has a place where its marks begin
pub record AreStarts (blocks : List Block) (starts : List ℕ) : Type 0 where
  pub each : length starts ≡ length blocks
  pub below : (slot : ℕ) → slot < length starts → slice_index starts slot < 2 ^ 63

-- the list has each block with bits, and nothing but blocks
pub record AreInOrder (o : Layout) (slots : List ℕ) : Type 0 where
  pub each : (slot : ℕ) → slot < length o.blocks → 0 < (block_at o slot).width → Contains slots slot
  pub only : All (λ slot. slot < length o.blocks) slots

-- of the first so many blocks of the list, the values of each state of the set are marked
abbrev pub AreMarked : Layout → List Node → ℕ → List ℕ → List Bool → List ℕ → ℕ → Type 0
AreMarked o nodes set starts marks slots n =
    (b : Bits) (k : ℕ) → IsInRange o 0 b → means nodes set b ≡ true → k < n
    → is_marked marks (slice_index starts (slice_index slots k) + value_at o 0 b (slice_index slots k)) ≡ true

-- the marks begin where they can be counted, and the list has the blocks with bits
pub record ArePlaces (o : Layout) (p : Places) : Type 0 where
  pub starts : AreStarts o.blocks p.starts.items
  pub slots : AreInOrder o p.slots.items

-- no value of a state of the set is left unmarked, of the variables that have bits
pub record AreOccurring (o : Layout) (nodes : List Node) (set : ℕ) (starts : List ℕ) (marks : List Bool) : Type 0 where
  pub each : (b : Bits) (slot : ℕ) → IsInRange o 0 b → means nodes set b ≡ true → slot < length o.blocks → 0 < (block_at o slot).width → is_marked marks (slice_index starts slot + value_at o 0 b slot) ≡ true

-- What is left of one Id below a block of bits.
use Rattle.std.specs.Prelude.{◌≡◌, ◌≢◌, ◌⊎◌, ℕ, ◌+◌, ◌<◌, ◌≤◌, ◌^◌, Bool, true, List, length, Contains}
use Rattle.bdd_table.specs.declared.node.Node.{Node}
use Rattle.bdd_table.specs.Diagram.{Bits, means}
use Rattle.var_order.specs.declared.block.Block.{Block}
use Rattle.bdd_sets.specs.Marks.{is_marked, KeepsMarks, block_value}

-- the block has few bits at low places, and the numbers of its marks fit
pub record CanPass (block : Block) (start : ℕ) : Type 0 where
  pub width : block.width ≤ 32
  pub place : 0 < block.width → block.first + block.width < 2147483648
  pub marks : start + block.values < 2 ^ 64

-- the list has this Id
unfoldable pub HasId : List ℕ → ℕ → Type 0
HasId ids id = Contains ids id

-- each Id of the list is known
abbrev pub AreKnown : List Node → List ℕ → Type 0
AreKnown nodes ids = (id : ℕ) → HasId ids id → id < length nodes

-- The place is marked and the Id added, unless that is false; nothing is taken away.
pub record AddsEnd (place end : ℕ) (old new : List ℕ) (marks more : List Bool) : Type 0 where
  pub kept : KeepsMarks marks more
  pub keeps : (q : ℕ) → HasId old q → HasId new q
  pub only : (q : ℕ) → HasId new q → HasId old q ⊎ (q ≡ end)
  pub marked : end ≢ 0 → is_marked more place ≡ true
  pub has : end ≢ 0 → HasId new end

-- The value of each code that the Id is true by is marked, and one of the list's Ids is true by it.
pub record FindsEnd (nodes : List Node) (block : Block) (start id : ℕ) (ends : List ℕ) (marks : List Bool) (b : Bits) : Type 0 where
  pub marked : is_marked marks (start + block_value block b) ≡ true
  pub end : ℕ
  pub has : HasId ends end
  pub holds : means nodes end b ≡ true

-- What is left of the Id below the block is added to the list, and nothing is taken from it or from the marks.
pub record AddsEnds (nodes : List Node) (block : Block) (start id : ℕ) (old new : List ℕ) (marks more : List Bool) : Type 0 where
  pub kept : KeepsMarks marks more
  pub keeps : (q : ℕ) → HasId old q → HasId new q
  pub known : AreKnown nodes new
  pub found : (b : Bits) → block_value block b < block.values → means nodes id b ≡ true → FindsEnd nodes block start id new more b

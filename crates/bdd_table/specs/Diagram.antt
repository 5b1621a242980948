-- What the nodes of a table mean, and which tables are reduced (Bryant 1986).
use Rattle.std.specs.Prelude.{◌≡◌, ◌≢◌, ℕ, zero, suc, ◌<◌, ◌≤◌, ◌==◌, [], ◌∷◌, ◌++◌, Bool, ◌⊎◌, List, length, slice_index_or, if◌then◌else◌}
use Rattle.bdd_table.specs.declared.node.Node.{Node}

-- a truth value for each level
abbrev pub Bits : Type 0
Bits = ℕ → Bool

-- a list as bits: a level past its end counts as false
abbrev pub as_bits : List Bool → Bits
as_bits values = λ level. slice_index_or values level Bool.false

-- the node of this level with these children
abbrev pub node_of : ℕ → ℕ → ℕ → Node
node_of level lo hi = record { level = level; lo = lo; hi = hi }

-- the level of the constants, below all others
abbrev pub bottom : ℕ
bottom = 4294967295

-- The node with this Id. The constants, 0 and 1, are nodes at the bottom that are their own children.
abbrev pub at : List Node → ℕ → Node
at nodes id = slice_index_or nodes id (node_of bottom 0 0)

-- the level of the node with this Id
abbrev pub level_of : List Node → ℕ → ℕ
level_of nodes id = (at nodes id).level

-- the child that the bits choose: `hi` where the node's level is true, else `lo`
abbrev pub chosen : List Node → Bits → ℕ → ℕ
chosen nodes b id = if b (at nodes id).level then (at nodes id).hi else (at nodes id).lo

-- whether this many choices lead from the Id to the constant true
unfoldable pub leads : ℕ → List Node → Bits → ℕ → Bool
leads zero nodes b id = id == 1
leads (suc steps) nodes b id = leads steps nodes b (chosen nodes b id)

-- What the Id means: whether the choices lead to true. Children have smaller Ids, so `id` choices end at a constant.
unfoldable pub means : List Node → ℕ → Bits → Bool
means nodes id b = leads id nodes b id

-- the children of an inner node are two different nodes, which stand before it and on later levels
pub record IsInner (nodes : List Node) (id : ℕ) : Type 0 where
  pub lo_before : (at nodes id).lo < id
  pub hi_before : (at nodes id).hi < id
  pub differ : (at nodes id).lo ≢ (at nodes id).hi
  pub lo_below : level_of nodes id < level_of nodes (at nodes id).lo
  pub hi_below : level_of nodes id < level_of nodes (at nodes id).hi

-- The constants come first, all others are inner nodes, and no two have the same level and children.
pub record IsReduced (nodes : List Node) : Type 0 where
  pub constants : 2 ≤ length nodes
  pub of_false : at nodes 0 ≡ node_of bottom 0 0
  pub of_true : at nodes 1 ≡ node_of bottom 1 1
  pub inner : (id : ℕ) → 2 ≤ id → id < length nodes → IsInner nodes id
  pub unique : (i j : ℕ) → i < length nodes → j < length nodes → at nodes i ≡ at nodes j → i ≡ j

-- each Id that was known has the same node
pub record GrowsTable (old new : List Node) : Type 0 where
  pub longer : length old ≤ length new
  pub same : (id : ℕ) → id < length old → at new id ≡ at old id

-- each Id that was known is known, and means the same
pub record Keeps (old new : List Node) : Type 0 where
  pub known : length old ≤ length new
  pub meaning : (id : ℕ) (b : Bits) → id < length old → means new id b ≡ means old id b

-- the node has the Id: it was there, or it wasn't, and is now the last
pub record AddsNode (old : List Node) (node : Node) (new : List Node) (id : ℕ) : Type 0 where
  pub known : id < length new
  pub is : at new id ≡ node
  pub how : (new ≡ old) ⊎ ((new ≡ old ++ node ∷ []) × (id ≡ length old) × ((i : ℕ) → i < length old → at old i ≢ node))

-- the bits, with another value at one level
abbrev pub put : Bits → ℕ → Bool → Bits
put b level value = λ l. if l == level then value else b l

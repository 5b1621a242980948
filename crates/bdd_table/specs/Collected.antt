-- What roots reach, and what a collection keeps of it.
use Rattle.std.specs.Prelude.{◌≡◌, ◌≢◌, ℕ, ◌<◌, ◌≤◌, ◌||◌, Bool, true, false, List, length, nat_lt, slice_index, slice_index_or, Contains, All, AllPairs}
use Rattle.bdd_table.specs.declared.node.Node.{Node}
use Rattle.bdd_table.specs.Diagram.{Bits, node_of, at, level_of, means, IsReduced}

-- an Id is reached if it is a root, or a child of an Id that is reached
pub data Reaches (nodes : List Node) (roots : List ℕ) : ℕ → Type 0 where
  root : (i : ℕ) → i < length roots → Reaches nodes roots (slice_index roots i)
  lo : (id : ℕ) → Reaches nodes roots id → Reaches nodes roots (at nodes id).lo
  hi : (id : ℕ) → Reaches nodes roots id → Reaches nodes roots (at nodes id).hi

-- the list has each node that the roots reach once, and nothing else; the constants are no nodes
pub record AreReached (nodes : List Node) (roots ids : List ℕ) : Type 0 where
  pub once : AllPairs ◌≢◌ ids
  pub each : (id : ℕ) → 2 ≤ id → Reaches nodes roots id → Contains ids id
  pub only : All (λ id. (2 ≤ id) × Reaches nodes roots id) ids

-- the Id of the new list means what the Id of the old list means, and has its level
pub record IsMoved (old new : List Node) (id place : ℕ) : Type 0 where
  pub known : place < length new
  pub level : level_of new place ≡ level_of old id
  pub meaning : (b : Bits) → means new place b ≡ means old id b

-- whether an Id is marked
abbrev pub is_marked_id : List Bool → ℕ → Bool
is_marked_id marks id = slice_index_or marks id false

-- Whether an Id is kept: a constant, or one that is marked.
abbrev pub is_kept : List Bool → ℕ → Bool
is_kept marks id = nat_lt id 2 || is_marked_id marks id

-- the roots are marked, and the children of each marked node from an Id on; all that is marked is reached
pub record MarkedFrom (nodes : List Node) (roots : List ℕ) (marks : List Bool) (from : ℕ) : Type 0 where
  pub as_long : length marks ≡ length nodes
  pub roots_marked : (i : ℕ) → i < length roots → is_marked_id marks (slice_index roots i) ≡ true
  pub lo_marked : (id : ℕ) → from ≤ id → 2 ≤ id → id < length nodes → is_marked_id marks id ≡ true → is_marked_id marks (at nodes id).lo ≡ true
  pub hi_marked : (id : ℕ) → from ≤ id → 2 ≤ id → id < length nodes → is_marked_id marks id ≡ true → is_marked_id marks (at nodes id).hi ≡ true
  pub only : (id : ℕ) → is_marked_id marks id ≡ true → Reaches nodes roots id

-- the children of a kept node are kept
pub record IsClosed (nodes : List Node) (marks : List Bool) : Type 0 where
  pub as_long : length marks ≡ length nodes
  pub lo_kept : (id : ℕ) → 2 ≤ id → id < length nodes → is_kept marks id ≡ true → is_kept marks (at nodes id).lo ≡ true
  pub hi_kept : (id : ℕ) → 2 ≤ id → id < length nodes → is_kept marks id ≡ true → is_kept marks (at nodes id).hi ≡ true

-- The node has its place, with its children at theirs, and no other place is new.
pub record IsPlaced (old before new : List Node) (places : List ℕ) (id place : ℕ) : Type 0 where
  pub moved : IsMoved old new id place
  pub is : at new place ≡ node_of (level_of old id) (slice_index places (at old id).lo) (slice_index places (at old id).hi)
  pub only : (p : ℕ) → length before ≤ p → p < length new → p ≡ place

-- each kept Id below n has its place in the new list, its children have theirs, and the new list has no other nodes
pub record AreMoved (old : List Node) (marks : List Bool) (new : List Node) (places : List ℕ) (n : ℕ) : Type 0 where
  pub reduced : IsReduced new
  pub count : length places ≡ n
  pub moved : (id : ℕ) → id < n → is_kept marks id ≡ true → IsMoved old new id (slice_index places id)
  pub lo_moved : (id : ℕ) → id < n → is_kept marks id ≡ true → (at new (slice_index places id)).lo ≡ slice_index places (at old id).lo
  pub hi_moved : (id : ℕ) → id < n → is_kept marks id ≡ true → (at new (slice_index places id)).hi ≡ slice_index places (at old id).hi
  pub only : (place : ℕ) → 2 ≤ place → place < length new → (id : ℕ) × (2 ≤ id) × (id < n) × (is_marked_id marks id ≡ true) × (slice_index places id ≡ place)

-- Sets by number: which Id stands at a place.
use Rattle.std.specs.Prelude.{◌≡◌, ◌≢◌, ℕ, ◌+◌, ◌<◌, ◌≤◌, List, length, slice_index, slice_index_or, Option, Some, None}
use Rattle.bdd_space.specs.declared.slots.Slot.{Slot}
use Rattle.bdd_space.specs.declared.slots.Slot.TheVariants.{Holds, Free}

-- the Id of a place, if it is not free
abbrev pub id_of : Slot → Option ℕ
id_of (Holds id) = Some id
id_of (Free next) = None

-- the Id of the set of this number, if there is one
abbrev pub set_at : List Slot → ℕ → Option ℕ
set_at slots a = id_of (slice_index_or slots a (Free 0))

-- the Id of a place, false where it is free
abbrev pub root_of : Slot → ℕ
root_of (Holds id) = id
root_of (Free next) = 0

-- the place with another Id; a free place stays
abbrev pub with_root : Slot → ℕ → Slot
with_root (Holds id) root = Holds root
with_root (Free next) root = Free next

-- a had no set, and has the Id; every other place has what it had
pub record Puts (old : List Slot) (id : ℕ) (new : List Slot) (a : ℕ) : Type 0 where
  pub fresh : set_at old a ≡ None
  pub is : set_at new a ≡ Some id
  pub others : (b : ℕ) → b ≢ a → set_at new b ≡ set_at old b

-- a has no set; every other place has what it had
pub record Empties (old : List Slot) (a : ℕ) (new : List Slot) : Type 0 where
  pub gone : set_at new a ≡ None
  pub others : (b : ℕ) → b ≢ a → set_at new b ≡ set_at old b

-- Below a number, each place that is not free has the Id that stands for it among the roots, the first at `from`; each other
-- place is as it was.
pub record MovedBelow (old : List Slot) (roots : List ℕ) (from : ℕ) (new : List Slot) (n : ℕ) : Type 0 where
  pub as_long : length new ≡ length old
  pub below : (a : ℕ) → a < n → slice_index_or new a (Free 0) ≡ with_root (slice_index_or old a (Free 0)) (slice_index roots (from + a))
  pub others : (a : ℕ) → n ≤ a → slice_index_or new a (Free 0) ≡ slice_index_or old a (Free 0)

-- so do all places
abbrev pub AreSlotsMoved : List Slot → List ℕ → ℕ → List Slot → Type 0
AreSlotsMoved old roots from new = MovedBelow old roots from new (length old)

-- Where the marks of facts stand.
use Rattle.std.specs.Prelude.{◌≡◌, ◌↔◌, ℕ, ◌+◌, ◌<◌, List, slice_index, Some, Contains}
use Rattle.symk_task.specs.declared.parts.Fact.{Fact}
use Rattle.var_order.specs.Layout.{Layout, slot_of, block_at}

-- the place is that of the mark of the fact, whose variable has bits
pub record IsPlaceOf (o : Layout) (starts : List ℕ) (f : Fact) (place : ℕ) : Type 0 where
  pub slot : ℕ
  pub at : slot_of o f.var ≡ Some slot
  pub some : 0 < (block_at o slot).width
  pub is : place ≡ slice_index starts slot + f.val

-- the places are those of the marks of the facts, but of facts whose variables have no bits
abbrev pub ArePlacesOf : Layout → List ℕ → List Fact → List ℕ → Type 0
ArePlacesOf o starts facts places = (place : ℕ) → Contains places place ↔ ((f : Fact) × Contains facts f × IsPlaceOf o starts f place)

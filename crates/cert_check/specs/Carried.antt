-- Where a collection carries sets.
use Rattle.std.specs.Prelude.{◌≡◌, ℕ, ◌<◌, List, length, slice_index}
use Rattle.bdd_table.specs.declared.node.Node.{Node}
use Rattle.bdd_table.specs.Collected.{IsMoved}

-- the root of each variable, and the members, mean in the new table what they meant in the old one
pub record AreCarried (old : List Node) (roots : List ℕ) (members : ℕ) (new : List Node) (carried : List ℕ) (place : ℕ) : Type 0 where
  pub count : length carried ≡ length roots
  pub each : (var : ℕ) → var < length roots → IsMoved old new (slice_index roots var) (slice_index carried var)
  pub set : IsMoved old new members place

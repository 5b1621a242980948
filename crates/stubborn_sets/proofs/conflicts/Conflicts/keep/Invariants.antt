use Rattle.std.proofs.Common.{◌≡◌, ℕ, ◌+◌, ◌-◌, length}
use Rattle.stubborn_sets.specs.Kept.{conflicts_at}
use Rattle.stubborn_sets.proofs.conflicts.Conflicts.keep.Given as goal

abbrev pub invariant-places : goal.invariant-places
invariant-places l = (i : ℕ) → conflicts_at l.self i ≡ conflicts_at l.fn.self i

abbrev pub decreases-places : goal.decreases-places
decreases-places l = l.one + 1 - length l.self.rows.items

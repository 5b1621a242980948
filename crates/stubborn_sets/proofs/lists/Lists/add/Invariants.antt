use Rattle.std.proofs.Common.{◌≡◌, ℕ, ◌+◌, ◌-◌, length}
use Rattle.stubborn_sets.specs.Kept.{list_at}
use Rattle.stubborn_sets.proofs.lists.Lists.add.Given as goal

abbrev pub invariant-places : goal.invariant-places
invariant-places l = (i : ℕ) → list_at l.self i ≡ list_at l.fn.self i

abbrev pub decreases-places : goal.decreases-places
decreases-places l = l.number + 1 - length l.self.lists.items

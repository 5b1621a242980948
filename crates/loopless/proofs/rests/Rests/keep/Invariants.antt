use Rattle.std.proofs.Common.{◌≡◌, ℕ, ◌+◌, ◌-◌, length}
use Rattle.loopless.specs.Rests.{rest_at}
use Rattle.loopless.proofs.rests.Rests.keep.Given as goal

abbrev pub invariant-places : goal.invariant-places
invariant-places l = record {
  same : (j : ℕ) → rest_at l.self j ≡ rest_at l.fn.self j;
}

abbrev pub decreases-places : goal.decreases-places
decreases-places l = l.number + 1 - length l.self.kept.items

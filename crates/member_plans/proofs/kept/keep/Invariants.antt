use Rattle.std.proofs.Common.{◌≡◌, ℕ, ◌+◌, ◌-◌, Some, slice_get, vec_len}
use Rattle.member_plans.specs.declared.kept.Marked.{Marked}
use Rattle.member_plans.proofs.kept.keep.Given as goal

abbrev pub invariant-places : goal.invariant-places
invariant-places l = (n : ℕ) (m : Marked) → slice_get l.kept.items n ≡ Some (Some m) → slice_get l.fn.kept.items n ≡ Some (Some m)

abbrev pub decreases-places : goal.decreases-places
decreases-places l = l.number + 1 - vec_len l.kept

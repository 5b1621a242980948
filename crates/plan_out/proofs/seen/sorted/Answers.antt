use Rattle.std.proofs.Common.{sym, subst}
use Rattle.std.specs.List.Sorted.{IsNonDecreasing}
use Rattle.std.proofs.lemmas.List.Sorted.{IsNonDecreasingBy-from_sort}
use Rattle.plan_out.proofs.seen.sorted.Goals as goal

pub returns-clause-rising : goal.returns-clause-rising
returns-clause-rising c = subst IsNonDecreasing (sym c.of.ensures) (IsNonDecreasingBy-from_sort (λ x. x) _ c.sort_unstable.ensures.sorted)

use Rattle.std.proofs.Common.{◌≡◌, [], replicate}
use Rattle.small_tasks.proofs.drafts.values.Given as goal

abbrev pub invariant-names : goal.invariant-names
invariant-names l = l.names.items ≡ replicate l.counter []

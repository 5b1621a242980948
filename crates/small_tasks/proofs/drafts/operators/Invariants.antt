use Rattle.std.proofs.Common.{◌≡◌, map, take}
use Rattle.small_tasks.specs.Drafts.{drafted_operator}
use Rattle.small_tasks.proofs.drafts.operators.Given as goal

abbrev pub invariant-operators : goal.invariant-operators
invariant-operators l = l.operators.items ≡ map drafted_operator (take l.draft-index l.drafts)

use Rattle.std.proofs.Common.{◌≡◌, map, take}
use Rattle.small_tasks.specs.Drafts.{drafted_variable}
use Rattle.small_tasks.proofs.drafts.variables.Given as goal

abbrev pub invariant-variables : goal.invariant-variables
invariant-variables l = l.variables.items ≡ map drafted_variable (take l.draft-index l.drafts)

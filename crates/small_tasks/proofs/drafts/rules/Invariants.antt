use Rattle.std.proofs.Common.{◌≡◌, map, take}
use Rattle.small_tasks.specs.Drafts.{drafted_rule}
use Rattle.small_tasks.proofs.drafts.rules.Given as goal

abbrev pub invariant-rules : goal.invariant-rules
invariant-rules l = l.rules.items ≡ map drafted_rule (take l.draft-index l.drafts)

use Rattle.std.proofs.Common.{◌≡◌, map, take}
use Rattle.small_tasks.specs.Drafts.{drafted_effect}
use Rattle.small_tasks.proofs.drafts.effects.Given as goal

abbrev pub invariant-effects : goal.invariant-effects
invariant-effects l = l.effects.items ≡ map drafted_effect (take l.draft-index l.drafts)

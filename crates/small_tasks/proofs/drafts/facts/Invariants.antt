use Rattle.std.proofs.Common.{◌≡◌, map, take}
use Rattle.small_tasks.specs.Drafts.{fact_of}
use Rattle.small_tasks.proofs.drafts.facts.Given as goal

abbrev pub invariant-rows : goal.invariant-rows
invariant-rows l = l.facts.items ≡ map fact_of (take l.row-index l.rows)

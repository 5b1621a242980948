use Rattle.bdd_sets.proofs.Passing.{PassesBelow}
use Rattle.bdd_sets.proofs.walking.pass.Given as goal

abbrev pub invariant-ids : goal.invariant-ids
invariant-ids l = PassesBelow l.table l.block l.start l.ids l.ends.items l.fn.marks.items l.marks.items l.id-index

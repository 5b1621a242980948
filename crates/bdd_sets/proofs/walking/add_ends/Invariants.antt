use Rattle.bdd_sets.proofs.Passing.{AddsBelow}
use Rattle.bdd_sets.proofs.walking.add_ends.Given as goal

abbrev pub invariant-values : goal.invariant-values
invariant-values l = AddsBelow l.table l.block l.start l.id l.fn.ends.items l.ends.items l.fn.marks.items l.marks.items l.value

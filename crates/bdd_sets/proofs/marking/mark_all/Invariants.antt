use Rattle.std.proofs.Common.{◌≡◌, ◌<◌, ◌+◌, ℕ, true}
use Rattle.bdd_sets.specs.Marks.{is_marked, KeepsMarks}
use Rattle.bdd_sets.proofs.marking.mark_all.Given as goal

abbrev pub invariant-values : goal.invariant-values
invariant-values l = record {
  all : (k : ℕ) → k < l.value → is_marked l.marks.items (l.first + k) ≡ true;
  kept : KeepsMarks l.fn.marks.items l.marks.items;
}

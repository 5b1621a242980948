use Rattle.std.proofs.Common.{ℕ, ◌<◌, IsTrue, slice_index_or}
use Rattle.stubborn_sets.specs.Closing.{has_mark}
use Rattle.stubborn_sets.specs.Growing.{AddsNumbers}
use Rattle.stubborn_sets.proofs.growing.Growing.add_all.Given as goal

abbrev pub invariant-loop-number : goal.invariant-loop-number
invariant-loop-number l = record {
  adds : AddsNumbers l.fn.self l.self;
  has : (k : ℕ) (d : ℕ) → k < l.number-index → IsTrue (has_mark l.self.marks.items (slice_index_or l.numbers k d));
}

use Rattle.std.proofs.Common.{ℕ, ◌<◌, IsTrue, slice_index_or}
use Rattle.symk_task.specs.declared.parts.Fact.{Fact}
use Rattle.stubborn_sets.specs.Depending.{has_mark, Spreads}
use Rattle.stubborn_sets.proofs.depending.mark_all.Given as goal

abbrev pub invariant-loop-fact : goal.invariant-loop-fact
invariant-loop-fact l = record {
  spreads : Spreads l.fn.marks l.marks l.more;
  has : (k : ℕ) (d : Fact) → k < l.fact-index → IsTrue (has_mark l.marks (slice_index_or l.facts k d).var);
}

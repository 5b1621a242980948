use Rattle.std.proofs.Common.{ℕ, ◌<◌, slice_index_or}
use Rattle.std.specs.Prelude.{IsFalse}
use Rattle.symk_task.specs.declared.parts.Rule.{Rule}
use Rattle.stubborn_sets.specs.Depending.{Spreads, StaysIn}
use Rattle.stubborn_sets.proofs.depending.spread.Given as goal

abbrev pub invariant-loop-rule : goal.invariant-loop-rule
invariant-loop-rule l = record {
  spreads : Spreads l.fn.marks l.marks l.more;
  shut : IsFalse l.more → (k : ℕ) (d : Rule) → k < l.rule-index → StaysIn l.marks (slice_index_or l.rules k d);
}

use Rattle.std.proofs.Common.{ℕ, ◌<◌, slice_index_or}
use Rattle.symk_task.specs.declared.parts.Rule.{Rule}
use Rattle.stubborn_sets.specs.Barring.{IsStopped}
use Rattle.stubborn_sets.specs.Growing.{AddsNumbers}
use Rattle.stubborn_sets.proofs.barring.bar_rules.Given as goal

abbrev pub invariant-loop-number : goal.invariant-loop-number
invariant-loop-number l = record {
  spreads : AddsNumbers l.fn.barred l.barred;
  adds : AddsNumbers l.fn.set l.set;
  rules : (j d : ℕ) (e : Rule) → j < l.number-index → IsStopped l.parts l.values l.barred.marks.items
      l.set.marks.items (slice_index_or l.parts.rules (slice_index_or l.number-items j d) e);
}

use Rattle.std.proofs.Common.{◌≡◌, ◌++◌, ◌≤◌, drop}
use Rattle.symk_text.specs.Lines.{lines}
use Rattle.symk_text.proofs.Cutting.{NoFeed}
use Rattle.symk_text.proofs.lines.lines_of.Given as goal

abbrev pub invariant-loop-at : goal.invariant-loop-at
invariant-loop-at l = record {
  within : l.from ≤ l.at;
  none : NoFeed l.bytes l.from l.at;
  so_far : l.items.items ++ lines (drop l.from l.bytes) ≡ lines l.bytes;
}

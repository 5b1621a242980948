use Rattle.std.proofs.Common.{◌≡◌, ℕ, ◌<◌, length}
use Rattle.stubborn_sets.specs.Kept.{AreChangers, list_in}
use Rattle.stubborn_sets.proofs.makers.changers.Given as goal

abbrev pub invariant-loop-var : goal.invariant-loop-var
invariant-loop-var l = record {
  each : length l.lists.items ≡ l.var;
  changers : (var : ℕ) → var < l.var → AreChangers l.task var (list_in l.lists.items var);
}

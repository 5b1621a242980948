use Rattle.stubborn_sets.specs.Kept.{AreGiversBelow, givers_of}
use Rattle.stubborn_sets.proofs.makers.givers.Given as goal

abbrev pub invariant-loop-op : goal.invariant-loop-op
invariant-loop-op l = AreGiversBelow l.task l.op (givers_of l.firsts l.given)

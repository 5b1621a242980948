use Rattle.stubborn_sets.specs.Depending.{GrowsMarks, left}
use Rattle.stubborn_sets.proofs.depending.spread_on.Given as goal

abbrev pub invariant-spreading : goal.invariant-spreading
invariant-spreading l = GrowsMarks l.fn.marks l.marks

abbrev pub decreases-spreading : goal.decreases-spreading
decreases-spreading l = left l.marks

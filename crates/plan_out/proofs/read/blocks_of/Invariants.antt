use Rattle.std.proofs.Common.{length}
use Rattle.plan_out.proofs.WholeText.{Begun}
use Rattle.plan_out.proofs.read.blocks_of.Given as goal

abbrev pub invariant-loop-rest : goal.invariant-loop-rest
invariant-loop-rest l = Begun l.fn.lines l.list l.rest

abbrev pub decreases-loop-rest : goal.decreases-loop-rest
decreases-loop-rest l = length l.rest

use Rattle.std.proofs.Common.{length}
use Rattle.plan_out.specs.Reading.{spaced_in}
use Rattle.plan_out.proofs.Spaced.{Left}
use Rattle.plan_out.proofs.line.spaced_in.Given as goal

abbrev pub invariant-loop-rest : goal.invariant-loop-rest
invariant-loop-rest l = Left (spaced_in (length l.fn.spaced) l.fn.spaced) l.plan l.rest

abbrev pub decreases-loop-rest : goal.decreases-loop-rest
decreases-loop-rest l = length l.rest

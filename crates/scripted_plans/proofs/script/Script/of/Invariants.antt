use Rattle.std.proofs.Common.{◌≡◌, None}
use Rattle.scripted_plans.specs.Free.{IsScript}
use Rattle.scripted_plans.proofs.script.Script.of.Given as goal

abbrev pub invariant-loop-plan : goal.invariant-loop-plan
invariant-loop-plan l = record { script : IsScript l.script.plans.keys None; last : l.script.last ≡ None }

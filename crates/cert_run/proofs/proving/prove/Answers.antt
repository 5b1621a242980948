use Rattle.run_status.proofs.Puts.{nothing_puts}
use Rattle.cert_run.specs.Proofs.{Proves}
use Rattle.cert_run.proofs.Putting.{proof_puts, plan_puts}
use Rattle.cert_run.proofs.proving.prove.Goals as goal

pub returns-in-Ok-Some-clause-answer : goal.returns-in-Ok-Some-clause-answer
returns-in-Ok-Some-clause-answer g c =
    proof_puts c.args.task.now c.in-Ok-Some.text.items c.deref.result.now (g.K.Sink.view c.args.sink.now) (g.K.Sink.view c.end.new.sink) _
    (rw c.in-Ok-Some.field-0-is at c.in-Ok-Some.ensures) c.deref.ensures.value c.end.ensures

pub returns-in-Ok-None-clause-answer : goal.returns-in-Ok-None-clause-answer
returns-in-Ok-None-clause-answer g c =
    plan_puts c.args.task.now c.has_plan.result.now (g.K.Sink.view c.args.sink.now) (g.K.Sink.view c.end-in-Ok-None.new.sink) _
    (rw c.in-Ok-None.field-0-is at c.in-Ok-None.ensures) c.has_plan.ensures c.end-in-Ok-None.ensures

pub returns-in-Err-clause-answer : goal.returns-in-Err-clause-answer
returns-in-Err-clause-answer g c = nothing_puts (Proves c.args.task.now) (g.K.Sink.view c.args.sink.now)

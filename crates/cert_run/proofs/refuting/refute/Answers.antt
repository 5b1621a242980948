use Rattle.std.proofs.Common.{refl}
use Rattle.run_status.specs.declared.status.Status.TheVariants.{NotShown, Offending}
use Rattle.run_status.proofs.Puts.{text_puts, nothing_puts}
use Rattle.cert_run.specs.Proofs.{Refutes, not_shown_text, cert_offence_text}
use Rattle.cert_run.proofs.Putting.{yes_puts}
use Rattle.cert_run.proofs.refuting.refute.Goals as goal

pub returns-in-Ok-Yes-clause-answer : goal.returns-in-Ok-Yes-clause-answer
returns-in-Ok-Yes-clause-answer g c =
    yes_puts c.args.task.now c.args.cert.now c.no_plan.result.now (g.K.Sink.view c.args.sink.now) (g.K.Sink.view c.end.new.sink) _
    (rw c.in-Ok-Yes.field-0-is at c.in-Ok-Yes.ensures.verdict) c.no_plan.ensures c.end.ensures

pub returns-in-Ok-Yes-clause-no_plan : goal.returns-in-Ok-Yes-clause-no_plan
returns-in-Ok-Yes-clause-no_plan g c = λ _. c.in-Ok-Yes.ensures.refutes c.in-Ok-Yes.field-0-is

pub returns-in-Ok-No-clause-answer : goal.returns-in-Ok-No-clause-answer
returns-in-Ok-No-clause-answer g c =
    text_puts (Refutes c.args.task.now c.args.cert.now) NotShown _ (not_shown_text c.in-Ok-No.part)
    (g.K.Sink.view c.args.sink.now) (g.K.Sink.view c.end_with.new.sink) _ c.not_shown.ensures
    (record { part = c.in-Ok-No.part; judged = rw c.in-Ok-No.field-0-is at c.in-Ok-No.ensures.verdict; text = refl })
    c.end_with.ensures.ends

pub returns-in-Err-Offence-clause-answer : goal.returns-in-Err-Offence-clause-answer
returns-in-Err-Offence-clause-answer g c =
    text_puts (Refutes c.args.task.now c.args.cert.now) Offending _ (cert_offence_text c.in-Err-Offence.line)
    (g.K.Sink.view c.args.sink.now) (g.K.Sink.view c.end_with-in-Err-Offence.new.sink) _ c.cert_offence.ensures
    (record { line = c.in-Err-Offence.line; offends = rw c.in-Err-Offence.field-0-is at c.in-Err-Offence.ensures.offence; text = refl })
    c.end_with-in-Err-Offence.ensures.ends

pub returns-in-Err-Memory-clause-answer : goal.returns-in-Err-Memory-clause-answer
returns-in-Err-Memory-clause-answer g c = nothing_puts (Refutes c.args.task.now c.args.cert.now) (g.K.Sink.view c.args.sink.now)

use Rattle.std.proofs.Common.{[], ◌∷◌, ◌∙◌, ◌≤◌, length}
use Rattle.symk_cli.specs.declared.reading.Named.TheVariants.{Cert}
use Rattle.run_status.specs.Ends.{OrFront}
use Rattle.cert_run.specs.Proofs.{Refutes}
use Rattle.symk_cli.specs.Refusals.{TextRefused}
use Rattle.run_status.proofs.Puts.{puts_after}
use Rattle.symk_cli.proofs.Certified.{refutes_refused, cert_refused, refutes_answered}
use Rattle.symk_cli.proofs.Opening.{text_before, stops_after, file_stops, other_stops, both_opened, sink_readable, refused_before}
use Rattle.symk_cli.proofs.top.refute.Goals as goal

pub returns-in-Err-clause-answer : goal.returns-in-Err-clause-answer
returns-in-Err-clause-answer g c = refutes_refused _ (g.F.Files.view c.args.files.now).told c.args.file.now c.args.cert.now _ _ _ c.in-Err.ensures.refused

pub returns-in-Err-clause-opened : goal.returns-in-Err-clause-opened
returns-in-Err-clause-opened g c = file_stops c.args.file.now ((Cert, c.args.cert.now) ∷ []) _ _ _ _ _ c.in-Err.ensures.stops

pub returns-clause-answer : goal.returns-clause-answer
returns-clause-answer g c =
    let told = (g.F.Files.view c.args.files.now).told in
    let old = g.K.Sink.view c.args.sink.now in
    let mid = g.K.Sink.view c.task_of.new.sink in
    let new = g.K.Sink.view c.text_of.new.sink in
    cert_refused _ told c.args.file.now c.args.cert.now c.in-Ok.task old new _ c.in-Ok.ensures.task
    (refused_before (λ rose. TextRefused rose Cert) told (g.F.Files.view c.task_of.new.files).told c.args.file.now c.args.cert.now _ new c.in-Err-text_of.status c.in-Ok.ensures.opened (c.in-Ok.ensures.quiet.0, c.in-Ok.ensures.untouched) c.in-Err-text_of.ensures.refused)

pub returns-clause-opened : goal.returns-clause-opened
returns-clause-opened g c =
    other_stops c.args.file.now Cert c.args.cert.now _ (g.F.Files.view c.task_of.new.files).told _ _ _ _ c.in-Ok.ensures.opened
    (stops_after Cert c.args.cert.now _ _ (g.K.Sink.view c.args.sink.now) (g.K.Sink.view c.task_of.new.sink) (g.K.Sink.view c.text_of.new.sink) _ c.in-Ok.ensures.untouched c.in-Err-text_of.ensures.stops)

pub returns-in-Ok-text_of-clause-answer : goal.returns-in-Ok-text_of-clause-answer
returns-in-Ok-text_of-clause-answer g c =
    let told = (g.F.Files.view c.args.files.now).told in
    let bytes = c.in-Ok-text_of.bytes.items in
    refutes_answered _ told c.args.file.now c.args.cert.now c.in-Ok.task bytes c.in-Ok.ensures.task
    (text_before c.args.file.now c.args.cert.now told (g.F.Files.view c.task_of.new.files).told bytes c.in-Ok.ensures.opened c.in-Ok-text_of.ensures.text) c.in-Ok-text_of.ensures.within
    (puts_after (OrFront (Refutes c.in-Ok.task bytes)) (g.K.Sink.view c.args.sink.now) (g.K.Sink.view c.text_of.new.sink) (g.K.Sink.view c.refute.new.sink) _ (c.in-Ok-text_of.ensures.untouched ∙ c.in-Ok.ensures.untouched)
    (rw c.deref.ensures.value at c.refute.ensures.answer))

pub returns-in-Ok-text_of-clause-opened : goal.returns-in-Ok-text_of-clause-opened
returns-in-Ok-text_of-clause-opened g c =
    both_opened c.args.file.now Cert c.args.cert.now _ (g.F.Files.view c.task_of.new.files).told _ _ _ _ c.in-Ok.ensures.opened c.in-Ok-text_of.ensures.opened (sink_readable _ _ _ c.refute.ensures.causes)

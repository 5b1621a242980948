use Rattle.std.proofs.Common.{[]}
use Rattle.run_status.specs.Ends.{OrFront}
use Rattle.cert_run.specs.Proofs.{Proves}
use Rattle.run_status.proofs.Puts.{puts_after}
use Rattle.symk_cli.proofs.Certified.{proves_refused, proves_answered}
use Rattle.symk_cli.proofs.Opening.{file_opened, file_stops, sink_readable}
use Rattle.symk_cli.proofs.top.prove.Goals as goal

pub returns-in-Err-clause-answer : goal.returns-in-Err-clause-answer
returns-in-Err-clause-answer g c = proves_refused _ (g.F.Files.view c.args.files.now).told c.args.file.now _ _ _ c.in-Err.ensures.refused

pub returns-in-Err-clause-opened : goal.returns-in-Err-clause-opened
returns-in-Err-clause-opened g c = file_stops c.args.file.now [] _ _ _ _ _ c.in-Err.ensures.stops

pub returns-in-Ok-clause-answer : goal.returns-in-Ok-clause-answer
returns-in-Ok-clause-answer g c =
    proves_answered _ (g.F.Files.view c.args.files.now).told c.args.file.now c.in-Ok.task _ _ _ c.in-Ok.ensures.task
    (puts_after (OrFront (Proves c.in-Ok.task)) (g.K.Sink.view c.args.sink.now) (g.K.Sink.view c.task_of.new.sink) (g.K.Sink.view c.prove.new.sink) _ c.in-Ok.ensures.untouched c.prove.ensures.answer)

pub returns-in-Ok-clause-opened : goal.returns-in-Ok-clause-opened
returns-in-Ok-clause-opened g c = file_opened c.args.file.now [] _ _ _ _ _ c.in-Ok.ensures.opened (sink_readable _ _ _ c.prove.ensures.causes)

use Rattle.std.proofs.Common.{[]}
use Rattle.plan_run.specs.Reaches.{OrReached}
use Rattle.run_status.proofs.Puts.{puts_after}
use Rattle.symk_cli.specs.Requests.{list_asked}
use Rattle.symk_cli.proofs.Answering.{lists_refused, lists_answered}
use Rattle.symk_cli.proofs.Opening.{file_opened, file_stops, sink_readable}
use Rattle.symk_cli.proofs.top.plan.Goals as goal

pub returns-in-Err-clause-answer : goal.returns-in-Err-clause-answer
returns-in-Err-clause-answer g c = lists_refused _ (g.F.Files.view c.args.files.now).told (list_asked c.args.list) _ _ _ c.in-Err.ensures.refused

pub returns-in-Err-clause-opened : goal.returns-in-Err-clause-opened
returns-in-Err-clause-opened g c = file_stops c.args.list.file.now [] _ _ _ _ _ c.in-Err.ensures.stops

pub returns-in-Ok-clause-answer : goal.returns-in-Ok-clause-answer
returns-in-Ok-clause-answer g c =
    lists_answered _ (g.F.Files.view c.args.files.now).told (list_asked c.args.list) c.in-Ok.task _ _ _ c.in-Ok.ensures.task
    (puts_after (OrReached c.in-Ok.task c.args.list.mode c.args.list.wanted c.args.list.reach) (g.K.Sink.view c.args.sink.now) (g.K.Sink.view c.task_of.new.sink) (g.K.Sink.view c.list_reached.new.sink) _ c.in-Ok.ensures.untouched c.list_reached.ensures.lists)

pub returns-in-Ok-clause-opened : goal.returns-in-Ok-clause-opened
returns-in-Ok-clause-opened g c =
    file_opened c.args.list.file.now [] _ _ _ _ _ c.in-Ok.ensures.opened (sink_readable _ _ _ c.list_reached.ensures.causes)

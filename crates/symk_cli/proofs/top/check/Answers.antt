use Rattle.std.proofs.Common.{[], ◌∷◌, ◌∙◌}
use Rattle.symk_cli.specs.declared.reading.Named.TheVariants.{Plans}
use Rattle.run_status.specs.Ends.{OrFront}
use Rattle.symk_cli.specs.Plans.{IsPlansText, PlansRefused}
use Rattle.symk_cli.specs.Verdicts.{Verdict}
use Rattle.run_status.proofs.Puts.{puts_after}
use Rattle.symk_cli.proofs.Answering.{checks_refused, plans_refused, checks_answered}
use Rattle.symk_cli.proofs.Opening.{text_of_before, stops_after, file_stops, other_stops, both_opened, sink_readable, refused_before}
use Rattle.symk_cli.proofs.top.check.Goals as goal

pub returns-in-Err-clause-answer : goal.returns-in-Err-clause-answer
returns-in-Err-clause-answer g c = checks_refused _ (g.F.Files.view c.args.files.now).told c.args.file.now c.args.plans.now c.args.mode _ _ _ c.in-Err.ensures.refused

pub returns-in-Err-clause-opened : goal.returns-in-Err-clause-opened
returns-in-Err-clause-opened g c = file_stops c.args.file.now ((Plans, c.args.plans.now) ∷ []) _ _ _ _ _ c.in-Err.ensures.stops

pub returns-clause-answer : goal.returns-clause-answer
returns-clause-answer g c =
    let told = (g.F.Files.view c.args.files.now).told in
    let old = g.K.Sink.view c.args.sink.now in
    let mid = g.K.Sink.view c.task_of.new.sink in
    let new = g.K.Sink.view c.plans_of.new.sink in
    plans_refused _ told c.args.file.now c.args.plans.now c.args.mode c.in-Ok.task old new _ c.in-Ok.ensures.task
    (refused_before PlansRefused told (g.F.Files.view c.task_of.new.files).told c.args.file.now c.args.plans.now _ new c.in-Err-plans_of.status c.in-Ok.ensures.opened (c.in-Ok.ensures.quiet.0, c.in-Ok.ensures.untouched) c.in-Err-plans_of.ensures.refused)

pub returns-clause-opened : goal.returns-clause-opened
returns-clause-opened g c =
    other_stops c.args.file.now Plans c.args.plans.now _ (g.F.Files.view c.task_of.new.files).told _ _ _ _ c.in-Ok.ensures.opened
    (stops_after Plans c.args.plans.now _ _ (g.K.Sink.view c.args.sink.now) (g.K.Sink.view c.task_of.new.sink) (g.K.Sink.view c.plans_of.new.sink) _ c.in-Ok.ensures.untouched c.in-Err-plans_of.ensures.stops)

pub returns-in-Ok-plans_of-clause-answer : goal.returns-in-Ok-plans_of-clause-answer
returns-in-Ok-plans_of-clause-answer g c =
    let told = (g.F.Files.view c.args.files.now).told in
    let blocks = c.in-Ok-plans_of.blocks.list in
    checks_answered _ told c.args.file.now c.args.plans.now c.args.mode c.in-Ok.task blocks c.in-Ok.ensures.task
    (text_of_before (λ P. IsPlansText P blocks) c.args.file.now c.args.plans.now told (g.F.Files.view c.task_of.new.files).told c.in-Ok.ensures.opened c.in-Ok-plans_of.ensures.blocks)
    (puts_after (OrFront (Verdict c.in-Ok.task c.args.mode blocks)) (g.K.Sink.view c.args.sink.now) (g.K.Sink.view c.plans_of.new.sink) (g.K.Sink.view c.judge.new.sink) _ (c.in-Ok-plans_of.ensures.untouched ∙ c.in-Ok.ensures.untouched) c.judge.ensures.verdict)

pub returns-in-Ok-plans_of-clause-opened : goal.returns-in-Ok-plans_of-clause-opened
returns-in-Ok-plans_of-clause-opened g c =
    both_opened c.args.file.now Plans c.args.plans.now _ (g.F.Files.view c.task_of.new.files).told _ _ _ _ c.in-Ok.ensures.opened c.in-Ok-plans_of.ensures.opened (sink_readable _ _ _ c.judge.ensures.causes)

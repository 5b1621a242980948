use Rattle.std.proofs.lemmas.Result.{err_from_is_err_and}
use Rattle.symk_cli.specs.Plans.{PlansRefused}
use Rattle.symk_cli.proofs.Refusing.{plans_offend, plans_refused_too, memory_after}
use Rattle.symk_cli.proofs.reading.plans_of.Goals as goal

pub returns-in-Err-Offence-clause-refused : goal.returns-in-Err-Offence-clause-refused
returns-in-Err-Offence-clause-refused g c =
    plans_offend _ (g.F.Files.view c.args.files.now).told c.args.name.now c.in_ok-text.text.items c.in-Err-Offence.line _ _
    (record { untouched = c.in_ok-text.ensures.untouched; text = c.in_ok-text.ensures.text; short = c.in_ok-text.ensures.within })
    (rw c.deref.ensures.value at (rw c.in-Err-Offence.field-0-is at c.in-Err-Offence.ensures.offence)) c.plans_offence_text.ensures c.end_with.ensures.ends

pub returns-in_err-text-clause-refused : goal.returns-in_err-text-clause-refused
returns-in_err-text-clause-refused g c =
    let p = err_from_is_err_and c.from_residual.result c.from_residual.ensures.1 in
    rw (p.1, p.2) (plans_refused_too _ (g.F.Files.view c.args.files.now).told c.args.name.now (g.K.Sink.view c.args.sink.now) (g.K.Sink.view c.text_of.new.sink) c.in_err-text.field-0.0 c.in_err-text.ensures.refused)

pub returns-clause-refused : goal.returns-clause-refused
returns-clause-refused g c = memory_after (PlansRefused _) (g.F.Files.view c.args.files.now).told c.args.name.now (g.K.Sink.view c.args.sink.now) (g.K.Sink.view c.text_of.new.sink) c.in_ok-text.ensures.untouched

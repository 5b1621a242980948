use Rattle.std.proofs.Common.{refl}
use Rattle.plan_out.specs.declared.check.Checked.TheVariants.{Good, Bad}
use Rattle.run_status.specs.declared.status.Status.TheVariants as status
use Rattle.symk_cli.specs.Verdicts.{Verdict, verdict_text}
use Rattle.run_status.proofs.Puts.{text_puts, nothing_puts}
use Rattle.symk_cli.proofs.checking.judge.Goals as goal

pub returns-in-Ok-Good-clause-verdict : goal.returns-in-Ok-Good-clause-verdict
returns-in-Ok-Good-clause-verdict g c =
    text_puts (Verdict c.args.task.now c.args.mode c.args.blocks.now.list) status.Good _ (verdict_text (Good c.in-Ok-Good.n)) (g.K.Sink.view c.args.sink.now) (g.K.Sink.view c.end_with.new.sink) _ c.good_text.ensures
    (record { found = Good c.in-Ok-Good.n; finds = rw c.in-Ok-Good.field-0-is at c.in-Ok-Good.ensures; says = refl; text = refl })
    c.end_with.ensures.ends

pub returns-in-Ok-Bad-clause-verdict : goal.returns-in-Ok-Bad-clause-verdict
returns-in-Ok-Bad-clause-verdict g c =
    text_puts (Verdict c.args.task.now c.args.mode c.args.blocks.now.list) status.BadList _ (verdict_text (Bad c.in-Ok-Bad.plan c.in-Ok-Bad.why)) (g.K.Sink.view c.args.sink.now) (g.K.Sink.view c.end_with-in-Ok-Bad.new.sink) _ c.bad_text.ensures
    (record { found = Bad c.in-Ok-Bad.plan c.in-Ok-Bad.why; finds = rw c.in-Ok-Bad.field-0-is at c.in-Ok-Bad.ensures; says = refl; text = refl })
    c.end_with-in-Ok-Bad.ensures.ends

pub returns-in-Err-clause-verdict : goal.returns-in-Err-clause-verdict
returns-in-Err-clause-verdict g c = nothing_puts (Verdict c.args.task.now c.args.mode c.args.blocks.now.list) (g.K.Sink.view c.args.sink.now)

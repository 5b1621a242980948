use Rattle.run_status.specs.declared.status.Status.TheVariants.{Shown}
use Rattle.symk_cli.specs.Shown.{IsSummary}
use Rattle.run_status.proofs.Puts.{made_puts}
use Rattle.symk_cli.proofs.demo.show.Goals as goal

pub returns-clause-shows : goal.returns-clause-shows
returns-clause-shows g c = made_puts (IsSummary c.args.number) Shown _ (g.K.Sink.view c.args.sink.now) (g.K.Sink.view c.end_with.new.sink) _ c.summary.ensures c.end_with.ensures.ends

use Rattle.symk_cli.proofs.Completed.{never_usage, completed}
use Rattle.symk_cli.proofs.Certified.{proved_settles, refuted_settles}
use Rattle.symk_cli.proofs.Long.{lengths_of}
use Rattle.symk_cli.proofs.top.run.Goals as goal

pub returns-clause-lawful : goal.returns-clause-lawful
returns-clause-lawful g c = never_usage _ _ _ _ _ _ c.answer.ensures.answer

pub returns-clause-complete : goal.returns-clause-complete
returns-clause-complete g c = completed _ _ (g.F.Files.view c.args.files.now) (g.F.Files.view c.answer.new.files) (g.K.Sink.view c.args.sink.now) (g.K.Sink.view c.answer.new.sink) _ c.answer.ensures.answer c.answer.ensures.causes

pub returns-clause-lengths : goal.returns-clause-lengths
returns-clause-lengths g c = lengths_of _ _ _ _ _ _ c.answer.ensures.answer

pub returns-clause-proved : goal.returns-clause-proved
returns-clause-proved g c = proved_settles _ _ _ _ _ _ c.answer.ensures.answer

pub returns-clause-refuted : goal.returns-clause-refuted
returns-clause-refuted g c = refuted_settles _ _ _ _ _ _ c.answer.ensures.answer

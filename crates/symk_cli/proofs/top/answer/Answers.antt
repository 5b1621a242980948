use Rattle.std.proofs.Common.{rules}
use Rattle.symk_cli.proofs.Answering.{usage_answered, memory_answered, usage_is}
use Rattle.symk_cli.proofs.top.answer.Goals as goal

pub returns-in-Err-Usage-clause-answer : goal.returns-in-Err-Usage-clause-answer
returns-in-Err-Usage-clause-answer g c =
    usage_answered _ _ (g.F.Files.view c.args.files.now).told _ (g.K.Sink.view c.args.sink.now) (g.K.Sink.view c.end.new.sink) _ (c.in-Err-Usage.ensures.usage (search rules)) usage_is c.end.ensures

pub returns-in-Err-Memory-clause-answer : goal.returns-in-Err-Memory-clause-answer
returns-in-Err-Memory-clause-answer g c = memory_answered _ _ (g.F.Files.view c.args.files.now).told (g.K.Sink.view c.args.sink.now)

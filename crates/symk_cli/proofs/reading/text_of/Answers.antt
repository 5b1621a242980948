use Rattle.std.proofs.Common.{rules}
use Rattle.symk_cli.proofs.Refusing.{told_text, not_unreadable, not_memory, unreadable_refused, long_refused, memory_refused}
use Rattle.symk_cli.proofs.reading.text_of.Goals as goal

pub returns-in-Err-Unreadable-clause-refused : goal.returns-in-Err-Unreadable-clause-refused
returns-in-Err-Unreadable-clause-refused g c =
    unreadable_refused _ (g.F.Files.view c.args.files.now).told c.args.name.now c.args.named c.unreadable.result.now (g.K.Sink.view c.args.sink.now) (g.K.Sink.view c.end.new.sink) _ (c.in-Err-Unreadable.ensures.unreadable (search rules)) c.unreadable.ensures c.end.ensures

pub returns-in-Err-TooLong-clause-refused : goal.returns-in-Err-TooLong-clause-refused
returns-in-Err-TooLong-clause-refused g c =
    long_refused _ (g.F.Files.view c.args.files.now).told c.args.name.now c.args.named c.too_long.result.now (g.K.Sink.view c.args.sink.now) (g.K.Sink.view c.end-in-Err-TooLong.new.sink) _
    (c.in-Err-TooLong.ensures.long (search rules)) (c.in-Err-TooLong.ensures.named (not_unreadable _ _ c.in-Err-TooLong.field-0-is) (not_memory _ _ c.in-Err-TooLong.field-0-is)) c.too_long.ensures c.end-in-Err-TooLong.ensures

pub returns-in-Err-Memory-clause-refused : goal.returns-in-Err-Memory-clause-refused
returns-in-Err-Memory-clause-refused g c = memory_refused _ (g.F.Files.view c.args.files.now).told c.args.name.now c.args.named (g.K.Sink.view c.args.sink.now)

pub returns-in-Ok-clause-text : goal.returns-in-Ok-clause-text
returns-in-Ok-clause-text g c = told_text (g.F.Files.view c.args.files.now).told c.args.name.now c.in-Ok.text.items c.in-Ok.ensures.whole (c.in-Ok.ensures.named (λ e. cc) (λ e. cc))

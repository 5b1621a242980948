use Rattle.std.proofs.Common.{◌++◌, sym, ap, ◌∙◌}
use Rattle.sas_writer.specs.Spelling.{text_of}
use Rattle.sas_writer.specs.TaskLines.{mutex_lines}
use Rattle.sas_writer.proofs.Growth.{lines_more}
use Rattle.sas_writer.proofs.sections.push_each_mutex.Goals as goal

pub loop-mutex-preserved : goal.loop-mutex-preserved
loop-mutex-preserved c =
    c.in_ok-push_mutex.ensures ∙ ap (λ t. t ++ (text_of (mutex_lines c.mutex-item.result))) c.loop-mutex.invariant
    ∙ sym (lines_more mutex_lines c.args.text.now c.args.mutexes.now c.loop-mutex.mutex-index
    c.mutex-item.result c.loop-mutex-test.true c.mutex-item.is)

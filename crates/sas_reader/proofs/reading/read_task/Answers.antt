use Rattle.std.proofs.Common.{◌∙◌}
use Rattle.symk_text.specs.Lines.{lines}
use Rattle.sas_reader.proofs.Whole.{file_given, file_fits, refused_at, left_within}
use Rattle.sas_reader.proofs.reading.read_task.Goals as goal

pub of-requires-in-Ok-parts_of : goal.of-requires-in-Ok-parts_of
of-requires-in-Ok-parts_of c = file_fits c.of.result c.in-Ok-parts_of.parts c.in-Ok-parts_of.ensures

pub overflow_sub-result : goal.overflow_sub-result
overflow_sub-result c =
    let e = rw c.in-Err-Offence.field-0-is at c.in-Err-Offence.ensures in
    left_within c.of.result c.as_slice-lines.result.now c.in-Err-Offence.offence c.of.ensures e

pub returns-in-Ok-parts_of-clause-file : goal.returns-in-Ok-parts_of-clause-file
returns-in-Ok-parts_of-clause-file c =
    file_given c.of.result (lines c.args.bytes.now) c.in-Ok-parts_of.parts c.of-in-Ok-parts_of.result
    (c.of.ensures ∙ c.as_slice-lines.ensures.value ∙ c.in-Ok.ensures) c.of-in-Ok-parts_of.ensures
    c.in-Ok-parts_of.ensures

pub returns-clause-offence : goal.returns-clause-offence
returns-clause-offence c =
    let e = rw c.in-Err-Offence.field-0-is at c.in-Err-Offence.ensures in
    refused_at c.of.result c.as_slice-lines.result.now (lines c.args.bytes.now) c.in-Err-Offence.offence c.of.ensures
    (c.as_slice-lines.ensures.value ∙ c.in-Ok.ensures) e

use Rattle.std.proofs.Common.{◌∙◌}
use Rattle.sas_reader.proofs.NameLines.{name_read}
use Rattle.sas_reader.proofs.rows.name_of.Goals as goal

pub returns-in_ok-from_slice-in-Some : goal.returns-in_ok-from_slice-in-Some
returns-in_ok-from_slice-in-Some c = name_read c.args.lines c.in-Some.rest c.in-Some.line.now c.of-name.result
    c.in-Some.ensures.0 c.in-Some.ensures.1 (c.of-name.ensures ∙ c.in_ok-from_slice-in-Some.ensures.items)

use Rattle.std.proofs.Common.{◌≡◌, ◌++◌, take, map}
use Rattle.std.specs.Prelude.{decimal}
use Rattle.sas_writer.specs.Spelling.{text_of}
use Rattle.sas_writer.proofs.sections.push_values.Given as goal

abbrev pub invariant-loop-value : goal.invariant-loop-value
invariant-loop-value l = l.text ≡ l.initial.text ++ text_of (map decimal (take l.value-index l.value-items))

use Rattle.std.proofs.Common.{◌≡◌, ◌++◌, take, map}
use Rattle.sas_writer.specs.Spelling.{text_of, name_line}
use Rattle.sas_writer.proofs.variables.push_names.Given as goal

abbrev pub invariant-loop-name : goal.invariant-loop-name
invariant-loop-name l = l.text ≡ l.initial.text ++ text_of (map name_line (take l.name-index l.names))

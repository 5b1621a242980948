use Rattle.std.proofs.Common.{◌≡◌, ◌++◌, take}
use Rattle.std.specs.List.{flat_map}
use Rattle.sas_writer.specs.Spelling.{text_of}
use Rattle.sas_writer.specs.TaskLines.{variable_lines}
use Rattle.sas_writer.proofs.variables.push_each_variable.Given as goal

abbrev pub invariant-loop-variable : goal.invariant-loop-variable
invariant-loop-variable l = l.text ≡ l.initial.text ++ text_of (flat_map variable_lines (take l.variable-index l.variables))

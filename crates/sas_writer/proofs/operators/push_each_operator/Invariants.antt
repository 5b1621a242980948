use Rattle.std.proofs.Common.{◌≡◌, ◌++◌, take}
use Rattle.std.specs.List.{flat_map}
use Rattle.sas_writer.specs.Spelling.{text_of}
use Rattle.sas_writer.specs.TaskLines.{operator_lines, HasSmallCosts}
use Rattle.sas_writer.proofs.operators.push_each_operator.Given as goal

abbrev pub invariant-loop-operator : goal.invariant-loop-operator
invariant-loop-operator l = (l.text ≡ l.initial.text ++ text_of
    (flat_map operator_lines (take l.operator-index l.operators)))
    × HasSmallCosts (take l.operator-index l.operators)

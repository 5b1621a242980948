use Rattle.std.proofs.Common.{◌≡◌, ◌++◌, take}
use Rattle.std.specs.List.{flat_map}
use Rattle.sas_writer.specs.Spelling.{text_of}
use Rattle.sas_writer.specs.TaskLines.{mutex_lines}
use Rattle.sas_writer.proofs.sections.push_each_mutex.Given as goal

abbrev pub invariant-loop-mutex : goal.invariant-loop-mutex
invariant-loop-mutex l = l.text ≡ l.initial.text ++ text_of (flat_map mutex_lines (take l.mutex-index l.mutexes))

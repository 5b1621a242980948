use Rattle.std.proofs.Common.{◌≡◌, drop}
use Rattle.symk_io.specs.Memory.{text_in}
use Rattle.symk_io.proofs.mem_files.place_of.Given as goal

abbrev pub invariant-loop-i : goal.invariant-loop-i
invariant-loop-i l = text_in (drop l.i l.files) l.name ≡ text_in l.files l.name

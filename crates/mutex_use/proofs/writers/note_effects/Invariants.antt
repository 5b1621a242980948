use Rattle.std.proofs.Common.{take}
use Rattle.mutex_use.specs.Writers.{NotesWriter}
use Rattle.mutex_use.proofs.writers.note_effects.Given as goal

abbrev pub invariant-effects : goal.invariant-effects
invariant-effects l = NotesWriter l.fn.writers l.op (take l.i l.effects) l.writers

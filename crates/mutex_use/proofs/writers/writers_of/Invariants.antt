use Rattle.mutex_use.specs.Writers.{AreWriters}
use Rattle.mutex_use.proofs.writers.writers_of.Given as goal

abbrev pub invariant-operators : goal.invariant-operators
invariant-operators l = AreWriters l.fn.task l.i l.writers.items

use Rattle.certificates.specs.Levels.{AreIndexes}
use Rattle.certificates.proofs.levels.indexes_of.Given as goal

abbrev pub invariant-loop-place : goal.invariant-loop-place
invariant-loop-place l = AreIndexes l.places l.indexes.items l.place

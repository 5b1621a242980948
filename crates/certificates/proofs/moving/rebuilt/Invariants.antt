use Rattle.bdd_ops.proofs.Rebuilding.{Rebuilt}
use Rattle.certificates.specs.Levels.{spread}
use Rattle.certificates.proofs.moving.rebuilt.Given as goal

abbrev pub invariant-ids : goal.invariant-ids
invariant-ids l = Rebuilt l.old l.wanted.items (spread l.indexes) l.fn.ops l.ops l.ids.items l.id

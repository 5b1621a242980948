use Rattle.bdd_table.specs.Diagram.{GrowsTable}
use Rattle.bdd_ops.specs.Renamed.{seen_by}
use Rattle.bdd_ops.proofs.Rebuilding.{Rebuilt}
use Rattle.bdd_ops.proofs.ops.Ops.rename.Given as goal

abbrev pub invariant-ids : goal.invariant-ids
invariant-ids l = Rebuilt l.fn.self l.wanted.items (seen_by l.pairs) l.fn.self l.self l.ids.items l.id × GrowsTable l.fn.self l.self

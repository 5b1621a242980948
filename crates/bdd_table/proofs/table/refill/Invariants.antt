use Rattle.std.proofs.Common.{◌≡◌, ◌≤◌, ◌+◌, take, length}
use Rattle.indexmap.specs.IndexSet.{spare}
use Rattle.bdd_table.proofs.table.refill.Given as goal

abbrev pub invariant-loop-i : goal.invariant-loop-i
invariant-loop-i l = (l.nodes.keys ≡ take l.i l.kept) × (length l.kept ≤ l.i + spare l.nodes)

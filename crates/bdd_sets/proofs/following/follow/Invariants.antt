use Rattle.std.proofs.Common.{◌≡◌, ◌<◌, length}
use Rattle.bdd_table.specs.Diagram.{Bits, means}
use Rattle.bdd_sets.specs.Marks.{block_value}
use Rattle.bdd_sets.proofs.following.follow.Given as goal

abbrev pub invariant-bits : goal.invariant-bits
invariant-bits l = record {
  known : l.id < length l.table;
  same : (b : Bits) → block_value l.block b ≡ l.value → means l.table l.id b ≡ means l.table l.root b;
}

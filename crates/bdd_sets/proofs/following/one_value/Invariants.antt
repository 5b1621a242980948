use Rattle.std.proofs.Common.{◌≡◌, ◌<◌, ◌+◌, ◌-◌, ◌*◌, ◌^◌, true, length}
use Rattle.bdd_table.specs.Diagram.{Bits, means}
use Rattle.var_order.specs.Codes.{number}
use Rattle.bdd_sets.specs.Marks.{block_value}
use Rattle.bdd_sets.proofs.following.one_value.Given as goal

abbrev pub invariant-bits : goal.invariant-bits
invariant-bits l = record {
  known : l.id < length l.table;
  small : l.value < 2 ^ l.bit;
  told : (b : Bits) → means l.table l.root b ≡ true → (means l.table l.id b ≡ true)
      × (block_value l.block b ≡ l.value * 2 ^ (l.block.width - l.bit) + number b 0 (l.block.first + l.bit)
      (l.block.width - l.bit));
}

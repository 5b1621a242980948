use Rattle.std.proofs.Common.{◌≡◌, ◌<◌, length}
use Rattle.bdd_table.specs.Diagram.{Bits, means}
use Rattle.var_order.specs.Codes.{IsCode}
use Rattle.bdd_sets.specs.Sets.{only_state_bits}
use Rattle.bdd_sets.proofs.member.has.Given as goal

abbrev pub invariant-loop-id : goal.invariant-loop-id
invariant-loop-id l = record {
  known : l.id < length l.ops;
  same : (b : Bits) → IsCode l.order 0 l.state b → means l.ops l.set (only_state_bits l.order b) ≡ means l.ops l.id (only_state_bits l.order b);
}

abbrev pub decreases-loop-id : goal.decreases-loop-id
decreases-loop-id l = l.id

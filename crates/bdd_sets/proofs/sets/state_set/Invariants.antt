use Rattle.std.proofs.Common.{length}
use Rattle.bdd_sets.proofs.Spelled.{spells}
use Rattle.bdd_sets.proofs.Conjunctions.{IsConj}
use Rattle.bdd_sets.proofs.sets.state_set.Given as goal

abbrev pub invariant-loop-slot : goal.invariant-loop-slot
invariant-loop-slot l = IsConj (spells l.order l.state) l.fn.ops l.ops l.all l.slot (length l.order.blocks)

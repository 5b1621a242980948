use Rattle.std.proofs.Common.{length}
use Rattle.bdd_sets.proofs.Spelled.{is_within}
use Rattle.bdd_sets.proofs.Conjunctions.{IsConj}
use Rattle.bdd_sets.proofs.sets.valid_set.Given as goal

abbrev pub invariant-loop-slot : goal.invariant-loop-slot
invariant-loop-slot l = IsConj (is_within l.order) l.fn.ops l.ops l.all l.slot (length l.order.blocks)

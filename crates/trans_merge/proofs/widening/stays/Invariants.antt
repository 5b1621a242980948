use Rattle.var_order.specs.Layout.{bits}
use Rattle.bdd_sets.proofs.Conjunctions.{IsConj}
use Rattle.trans_merge.specs.Widened.{stays_at}
use Rattle.trans_merge.proofs.widening.stays.Given as goal

abbrev pub invariant-loop-place : goal.invariant-loop-place
invariant-loop-place l = IsConj (stays_at l.own l.wide) l.fn.ops l.ops l.all l.place (bits l.order)

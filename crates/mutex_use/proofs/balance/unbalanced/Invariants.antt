use Rattle.mutex_use.proofs.Balancing.{AreLookedAt}
use Rattle.mutex_use.proofs.balance.unbalanced.Given as goal

abbrev pub invariant-among : goal.invariant-among
invariant-among l = AreLookedAt l.operators l.facts l.among l.i l.left.items

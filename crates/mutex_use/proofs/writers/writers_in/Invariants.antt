use Rattle.std.proofs.Common.{ℕ, ◌↔◌, IsTrue, take, Contains}
use Rattle.std.specs.Ordering.{nat_cmp}
use Rattle.std.specs.BTreeSet.{contains}
use Rattle.mutex_use.specs.Writers.{writers_at}
use Rattle.mutex_use.proofs.writers.writers_in.Given as goal

abbrev pub invariant-variables : goal.invariant-variables
invariant-variables l = (op : ℕ) → IsTrue (contains nat_cmp l.operators op)
    ↔ ((var : ℕ) × Contains (take l.i l.variables) var × Contains (writers_at l.writers var) op)

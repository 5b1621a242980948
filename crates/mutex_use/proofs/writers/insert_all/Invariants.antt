use Rattle.std.proofs.Common.{ℕ, ◌⊎◌, ◌↔◌, IsTrue, take, Contains}
use Rattle.std.specs.Ordering.{nat_cmp}
use Rattle.std.specs.BTreeSet.{contains}
use Rattle.mutex_use.proofs.writers.insert_all.Given as goal

abbrev pub invariant-numbers : goal.invariant-numbers
invariant-numbers l = (n : ℕ) → IsTrue (contains nat_cmp l.set n) ↔ (IsTrue (contains nat_cmp l.initial.set n) ⊎ Contains (take l.i l.numbers) n)

use Rattle.std.proofs.Common.{◌≡◌, ℕ, ◌↔◌, IsTrue, take, Contains}
use Rattle.std.specs.Ordering.{nat_cmp}
use Rattle.std.specs.BTreeSet.{contains}
use Rattle.symk_task.specs.declared.parts.Fact.{Fact}
use Rattle.mutex_use.proofs.writers.variables_of.Given as goal

abbrev pub invariant-facts : goal.invariant-facts
invariant-facts l = (var : ℕ) → IsTrue (contains nat_cmp l.set var) ↔ ((fact : Fact) × Contains (take l.i l.facts) fact × (fact.var ≡ var))

use Rattle.std.proofs.Common.{◌≡◌, ◌↔◌, ◌<◌, ℕ, IsTrue}
use Rattle.std.specs.Ordering.{nat_cmp}
use Rattle.std.specs.BTreeSet.{contains}
use Rattle.symk_task.specs.Steps.{cost_at}
use Rattle.space_api.proofs.costs.cost_set.Given as goal

abbrev pub invariant-operators : goal.invariant-operators
invariant-operators l = (c : ℕ) → IsTrue (contains nat_cmp l.set c) ↔ ((op : ℕ) × (op < l.operator) × (cost_at l.task op ≡ c))

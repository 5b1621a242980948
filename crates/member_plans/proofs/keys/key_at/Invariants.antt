use Rattle.std.proofs.Common.{◌≡◌, ◌∷◌, take}
use Rattle.prefix_tree.specs.Tree.{state_number_at}
use Rattle.member_plans.proofs.keys.key_at.Given as goal

abbrev pub invariant-operators : goal.invariant-operators
invariant-operators l = l.key.items ≡ state_number_at l.tree l.node ∷ take l.op-index l.op-items

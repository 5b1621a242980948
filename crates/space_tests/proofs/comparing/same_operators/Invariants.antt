use Rattle.std.proofs.Common.{◌≡◌, ℕ, ◌<◌}
use Rattle.space_tests.proofs.comparing.same_operators.Given as goal

abbrev pub invariant-operators : goal.invariant-operators
invariant-operators g l = (op : ℕ) → op < l.op → (g.A.Space.view l.a).system.cost op ≡ (g.B.Space.view l.b).system.cost op

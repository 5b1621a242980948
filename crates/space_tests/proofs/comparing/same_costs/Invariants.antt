use Rattle.std.proofs.Common.{◌≡◌, ℕ, ◌<◌, get_or}
use Rattle.space_api.specs.Costs.{costs_of}
use Rattle.space_tests.proofs.comparing.same_costs.Given as goal

abbrev pub invariant-costs : goal.invariant-costs
invariant-costs g l = (k : ℕ) → k < l.i → get_or (costs_of (g.A.Space.view l.a).system) k 0 ≡ get_or (costs_of (g.B.Space.view l.b).system) k 0

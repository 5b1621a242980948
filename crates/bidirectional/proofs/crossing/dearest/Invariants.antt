use Rattle.std.proofs.Common.{ℕ, ◌<◌, ◌≤◌, slice_index}
use Rattle.space_api.specs.Costs.{costs_of}
use Rattle.bidirectional.proofs.crossing.dearest.Given as goal

abbrev pub invariant-costs : goal.invariant-costs
invariant-costs g l = (k : ℕ) → k < l.i → slice_index (costs_of (g.S.Space.view l.fn.space).system) k ≤ l.most

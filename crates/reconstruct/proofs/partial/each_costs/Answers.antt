use Rattle.std.proofs.Common.{ltb-true}
use Rattle.reconstruct.proofs.Parting.{costs_some}
use Rattle.reconstruct.proofs.partial.each_costs.Goals as goal

pub returns-then-costs-gt0 : goal.returns-then-costs-gt0
returns-then-costs-gt0 g c = λ is. costs_some (g.S.Space.view c.args.space.now).system c.cost_at.result c.cost_at.ensures
    (ltb-true 0 c.cost_at.result is)

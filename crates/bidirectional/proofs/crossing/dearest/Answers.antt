use Rattle.std.proofs.Common.{arith}
use Rattle.space_api.proofs.CostList.{are_costs}
use Rattle.bidirectional.proofs.crossing.dearest.Goals as goal

pub returns : goal.returns
returns g c = λ op number.
    let i = (are_costs (g.S.Space.view c.args.space.now).system).all op number in
    let here = c.costs.invariant i.0 (omega (arith, i.1, c.costs-i-end.ensures, c.costs-test.false, c.costs.auto.i-end)) in
    omega (arith, here, i.2)

use Rattle.std.proofs.Common.{arith}
use Rattle.cost_to_go.proofs.Knowing.{ranked_least, rank_under}
use Rattle.cost_to_go.proofs.search.CostToGo.ranks.Goals as goal

pub returns-clause-under : goal.returns-clause-under
returns-clause-under g c = λ v i x s h. (let lt = rank_under v c.args.self.now.ranks i x s h in omega (arith, lt, c.ranks.ensures.many))

pub returns-clause-few : goal.returns-clause-few
returns-clause-few g c = λ v z. c.ranks.ensures.few v z.ranks

pub returns-clause-leads : goal.returns-clause-leads
returns-clause-leads g c = λ v z i x s h. (c.ranks.ensures.least v z.ranks i x s h).0

pub returns-clause-least : goal.returns-clause-least
returns-clause-least g c = λ v z i x s h. ranked_least v c.args.self.now z i x s h

pub returns-clause-once : goal.returns-clause-once
returns-clause-once g c = λ v z. c.ranks.ensures.once v z.ranks

pub returns-clause-way : goal.returns-clause-way
returns-clause-way g c = λ v z. c.ranks.ensures.way v z.ranks

use Rattle.std.proofs.Common.{arith}
use Rattle.goal_ranks.proofs.Few.{few_ranks}
use Rattle.goal_ranks.proofs.Knowing.{rank_least, rank_way}
use Rattle.goal_ranks.proofs.search.GoalRanks.ranks.Goals as goal

pub returns-clause-few : goal.returns-clause-few
returns-clause-few g c = λ v z. (let le = few_ranks v c.args.self.now z in omega (arith, le, c.len.ensures, c.args.self.now.ranks.ok.0))

pub returns-clause-least : goal.returns-clause-least
returns-clause-least g c = λ v z i x s h. rank_least v c.args.self.now z i x s h

pub returns-clause-way : goal.returns-clause-way
returns-clause-way g c = λ v z i x s h. rank_way v c.args.self.now z i x s h

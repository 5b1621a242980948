use Rattle.goal_ranks.proofs.Knowing.{all_ranked}
use Rattle.goal_ranks.proofs.search.GoalRanks.beyond.Goals as goal

pub returns-clause-all : goal.returns-clause-all
returns-clause-all g c = λ v z past none s h. all_ranked v c.args.self.now z past none s h

use Rattle.goal_ranks.proofs.Knowing.{rank_anywhere}
use Rattle.goal_ranks.proofs.search.GoalRanks.rank_of.Goals as goal

pub returns : goal.returns
returns g c = rank_anywhere (g.S.Space.view c.args.space.now) c.args.self.now c.args.state.now c.rank_from.result c.rank_from.ensures

use Rattle.run_graph.proofs.Ranking.{one_more}
use Rattle.run_graph.proofs.ranks.one_more_rank_is_right.Goals as goal

pub returns : goal.returns
returns c = λ side y within new f at more waits after many n x r z adds on keys. one_more _ _ f _ many _ r _ _ n x _ z adds on keys

use Rattle.run_graph.proofs.Sound.{rank_cost}
use Rattle.run_graph.proofs.ranks.ranks_are_least_costs.Goals as goal

pub returns : goal.returns
returns c = λ side y within f at waits many r i x s a. rank_cost side y r i x s a

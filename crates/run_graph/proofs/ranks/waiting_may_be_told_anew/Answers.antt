use Rattle.run_graph.proofs.Ranking.{told_anew}
use Rattle.run_graph.proofs.ranks.waiting_may_be_told_anew.Goals as goal

pub returns : goal.returns
returns c = λ side y within f at waits after many r keys rest. told_anew _ _ f _ many _ r _ keys rest

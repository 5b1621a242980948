use Rattle.run_graph.proofs.Ranking.{goes_on}
use Rattle.run_graph.proofs.ranks.other_end_may_go_on.Goals as goal

pub returns : goal.returns
returns c = λ side y within f g at waits many le r. goes_on _ _ f _ many _ r g le

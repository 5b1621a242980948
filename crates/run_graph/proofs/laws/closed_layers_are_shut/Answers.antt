use Rattle.run_graph.proofs.Settled.{closed_shut}
use Rattle.run_graph.proofs.laws.closed_layers_are_shut.Goals as goal

pub returns : goal.returns
returns c = λ side k y within at opens known beyond h none past. closed_shut _ k _ _ _ beyond known h none past

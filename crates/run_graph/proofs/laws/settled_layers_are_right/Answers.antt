use Rattle.run_graph.proofs.Settled.{settled_right}
use Rattle.run_graph.proofs.laws.settled_layers_are_right.Goals as goal

pub returns : goal.returns
returns c = λ side k y within at opens beyond known h useful c lt. settled_right side y h useful c lt

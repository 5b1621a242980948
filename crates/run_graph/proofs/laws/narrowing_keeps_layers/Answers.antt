use Rattle.run_graph.proofs.Settled.{narrow_settling}
use Rattle.run_graph.proofs.laws.narrowing_keeps_layers.Goals as goal

pub returns : goal.returns
returns c = λ side k y within useful at cut opens beyond known split h. narrow_settling _ k _ _ _ _ _ beyond known split h

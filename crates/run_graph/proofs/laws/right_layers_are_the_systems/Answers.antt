use Rattle.run_graph.proofs.Sides.{right_side}
use Rattle.run_graph.proofs.laws.right_layers_are_the_systems.Goals as goal

pub returns : goal.returns
returns c = λ side k y at c. right_side side k y _ c

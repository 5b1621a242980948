use Rattle.run_graph.proofs.Sides.{shut_inside}
use Rattle.run_graph.proofs.laws.shut_sets_have_all.Goals as goal

pub returns : goal.returns
returns c = λ side y within shut h s r. shut_inside side y _ _ h s r

use Rattle.run_graph.proofs.Sound.{runs_bound}
use Rattle.run_graph.proofs.ranks.keys_bound_runs.Goals as goal

pub returns : goal.returns
returns c = λ side y within f at waits many n r none s new a d w h lt. runs_bound side y r none s new a w h lt

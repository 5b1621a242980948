use Rattle.run_graph.proofs.Settled.{settled}
use Rattle.run_graph.proofs.laws.one_more_cost_is_settled.Goals as goal

pub returns : goal.returns
returns c = λ side k y within room at more row opens after beyond later x next old split new room_is reopens past.
    settled _ k _ _ _ _ _ _ _ beyond later x next old split new room_is reopens past

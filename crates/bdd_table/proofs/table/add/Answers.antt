use Rattle.bdd_table.specs.NodeHash.{node_eq, node_eq_same}
use Rattle.bdd_table.proofs.Adding.{adds_of, node_eq_itself}
use Rattle.bdd_table.proofs.table.add.Goals as goal

pub returns-clause-ok : goal.returns-clause-ok
returns-clause-ok c = adds_of node_eq node_eq_itself node_eq_same _ _ _ _ c.in_ok-id.ensures.keys c.in_ok-id.ensures.within c.in_ok-id.ensures.stored

use Rattle.member_laws.specs.Nodes.{PendsNode}
use Rattle.member_laws.proofs.Calls.{ended_by, again}
use Rattle.member_laws.proofs.laws.endings_stand.Goals as goal

pub returns : goal.returns
returns c = λ y most first now. (ended_by y most (PendsNode y first) (PendsNode y now), again y most (PendsNode y now))

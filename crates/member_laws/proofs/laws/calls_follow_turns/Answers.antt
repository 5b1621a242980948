use Rattle.member_laws.specs.Nodes.{PendsNode}
use Rattle.member_laws.proofs.Calls.{turned_from}
use Rattle.member_laws.proofs.laws.calls_follow_turns.Goals as goal

pub returns : goal.returns
returns c = λ y most first old new result stays turned. turned_from y most (PendsNode y first) (PendsNode y old) (PendsNode y new) result stays turned

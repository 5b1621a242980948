use Rattle.member_laws.proofs.Pending.{covers_first, pends_first}
use Rattle.member_laws.proofs.laws.each_pends_at_first.Goals as goal

pub returns : goal.returns
returns c = λ y. (covers_first y, pends_first y)

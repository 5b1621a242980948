use Rattle.member_laws.proofs.Telling.{pends_told}
use Rattle.member_laws.proofs.laws.pending_is_told.Goals as goal

pub returns : goal.returns
returns c = λ y opened. ((λ p h. h.0), pends_told y opened)

use Rattle.member_laws.proofs.Pending.{pending_bounded}
use Rattle.member_laws.proofs.laws.pending_is_bounded.Goals as goal

pub returns : goal.returns
returns c = λ y opened queue bound p lists covers all h. pending_bounded y opened queue lists covers bound all p h

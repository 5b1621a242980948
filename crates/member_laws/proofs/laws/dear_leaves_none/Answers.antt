use Rattle.member_laws.proofs.Pending.{dear_leaves}
use Rattle.member_laws.proofs.laws.dear_leaves_none.Goals as goal

pub returns : goal.returns
returns c = λ y cost bound opened queue lists covers all dear. dear_leaves y opened queue lists covers cost bound all dear

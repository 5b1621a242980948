use Rattle.member_laws.proofs.Pending.{opening_keeps}
use Rattle.member_laws.proofs.laws.opening_keeps_all.Goals as goal

pub returns : goal.returns
returns c = opening_keeps

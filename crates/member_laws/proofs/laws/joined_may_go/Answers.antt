use Rattle.member_laws.proofs.Covering.{joined_goes}
use Rattle.member_laws.proofs.laws.joined_may_go.Goals as goal

pub returns : goal.returns
returns c = joined_goes

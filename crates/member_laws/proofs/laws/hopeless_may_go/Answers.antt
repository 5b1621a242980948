use Rattle.member_laws.proofs.Covering.{hopeless_goes}
use Rattle.member_laws.proofs.laws.hopeless_may_go.Goals as goal

pub returns : goal.returns
returns c = hopeless_goes

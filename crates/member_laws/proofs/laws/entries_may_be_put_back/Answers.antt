use Rattle.member_laws.proofs.Covering.{comes_back}
use Rattle.member_laws.proofs.laws.entries_may_be_put_back.Goals as goal

pub returns : goal.returns
returns c = comes_back

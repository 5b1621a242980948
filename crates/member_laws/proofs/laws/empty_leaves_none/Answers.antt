use Rattle.member_laws.proofs.Pending.{empty_leaves}
use Rattle.member_laws.proofs.laws.empty_leaves_none.Goals as goal

pub returns : goal.returns
returns c = empty_leaves

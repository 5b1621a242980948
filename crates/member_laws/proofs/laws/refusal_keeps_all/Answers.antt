use Rattle.member_laws.proofs.Calls.{call_refused}
use Rattle.member_laws.proofs.laws.refusal_keeps_all.Goals as goal

pub returns : goal.returns
returns c = call_refused

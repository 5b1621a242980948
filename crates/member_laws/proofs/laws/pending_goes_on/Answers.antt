use Rattle.member_laws.proofs.Going as going
use Rattle.member_laws.proofs.laws.pending_goes_on.Goals as goal

pub returns : goal.returns
returns c = λ y opened queue p lists covers h. going.pending_goes_on y opened queue lists covers p h

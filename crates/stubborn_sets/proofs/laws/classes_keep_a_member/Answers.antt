use Rattle.stubborn_sets.proofs.Moving.{member}
use Rattle.stubborn_sets.proofs.laws.classes_keep_a_member.Goals as goal

pub returns : goal.returns
returns c = member

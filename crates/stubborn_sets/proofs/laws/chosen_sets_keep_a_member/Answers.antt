use Rattle.stubborn_sets.proofs.Moving.{chosen_member}
use Rattle.stubborn_sets.proofs.laws.chosen_sets_keep_a_member.Goals as goal

pub returns : goal.returns
returns c = chosen_member

use Rattle.stubborn_sets.proofs.Moving.{moved}
use Rattle.stubborn_sets.proofs.laws.first_inside_moves_to_front.Goals as goal

pub returns : goal.returns
returns c = moved

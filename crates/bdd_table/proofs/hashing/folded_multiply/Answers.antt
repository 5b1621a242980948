use Rattle.std.proofs.Common.{refl}
use Rattle.bdd_table.specs.WordHash.{folded_multiply}
use Rattle.bdd_table.proofs.hashing.folded_multiply.Goals as goal

pub returns : goal.returns
unfolding folded_multiply
returns c = refl

use Rattle.std.proofs.Common.{refl}
use Rattle.bdd_table.specs.WordHash.{initial}
use Rattle.bdd_table.proofs.hashing.WordHasherDefault.default.Goals as goal

pub returns : goal.returns
unfolding initial
returns c = refl

use Rattle.bdd_table.specs.WordHash.{mixed_word}
use Rattle.bdd_table.proofs.hashing.mixed.Goals as goal

pub returns : goal.returns
unfolding mixed_word
returns c = c.folded_multiply.ensures

use Rattle.bdd_table.specs.WordHash.{write}
use Rattle.bdd_table.proofs.hashing.WordHasherHasher.write.Goals as goal

pub returns : goal.returns
unfolding write
returns c = rw (c.mixed-self.ensures, c.word_of.ensures)

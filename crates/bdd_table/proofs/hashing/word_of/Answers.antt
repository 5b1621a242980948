use Rattle.std.proofs.Common.{length}
use Rattle.std.proofs.lemmas.Bool.{eq-eqb, ne_eqb}
use Rattle.bdd_table.specs.WordHash.{word_of}
use Rattle.bdd_table.proofs.hashing.word_of.Goals as goal

pub returns-then-bytes-ne8 : goal.returns-then-bytes-ne8
unfolding word_of
returns-then-bytes-ne8 c = rw (ne_eqb (length c.args.bytes.now) 8 c.if-bytes-ne8.true)

pub returns : goal.returns
unfolding word_of
returns c = rw (eq-eqb (length c.args.bytes.now) 8 c.if-bytes-ne8.false, c.from_le_bytes.ensures)

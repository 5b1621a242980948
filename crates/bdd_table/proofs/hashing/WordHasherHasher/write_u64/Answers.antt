use Rattle.std.proofs.Common.{◌≡◌, ℕ, ◌<◌, ◌^◌}
use Rattle.std.proofs.lemmas.Nat.{from_le_bytes-to_le_bytes_8}
use Rattle.bdd_table.specs.WordHash.{write, word_of}
use Rattle.std.specs.Hash.{le_bytes}
use Rattle.bdd_table.proofs.hashing.WordHasherHasher.write_u64.Goals as goal

word_again : (word : ℕ) → word < 2 ^ 64 → word_of (le_bytes 8 word) ≡ word
unfolding word_of le_bytes
word_again word fits = from_le_bytes-to_le_bytes_8 word fits

pub returns : goal.returns
unfolding write
returns c = rw (c.mixed-self.ensures, word_again c.args.word c.ranges.word.fits)

-- What a `WordHasher` computes.
use Rattle.std.specs.Prelude.{ℕ, ◌*◌, ◌/◌, ◌^◌, ◌-◌, ◌==◌, List, length, bit_and, bit_xor, if◌then◌else◌}
use Rattle.std.specs.Int.{w64, from_le_bytes}
use Rattle.bdd_table.specs.declared.hashing.WordHasher.{WordHasher}

unfoldable pub initial : WordHasher
initial = record { state = 0x243f_6a88_85a3_08d3 }

-- the two halves of the 128 bits of a * b, joined by xor
unfoldable pub folded_multiply : ℕ → ℕ → ℕ
folded_multiply a b = bit_xor (bit_and (a * b) (2 ^ 64 - 1)) (a * b / 2 ^ 64)

-- the state after a word
unfoldable pub mixed_word : ℕ → ℕ → ℕ
mixed_word state word = folded_multiply (bit_xor state word) 0x9e37_79b9_7f4a_7c15

-- the word that these bytes are, the lowest first; 0 where they are not eight
unfoldable pub word_of : List ℕ → ℕ
word_of bytes = if length bytes == 8 then from_le_bytes w64 bytes else 0

-- the state after `write(bytes)`
unfoldable pub write : WordHasher → List ℕ → WordHasher
write hasher bytes = record { state = mixed_word hasher.state (word_of bytes) }

-- what `finish` returns
abbrev pub finish : WordHasher → ℕ
finish hasher = hasher.state

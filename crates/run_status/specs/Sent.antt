-- What goes out piece by piece, each with a flush of its own.
use Rattle.std.specs.Prelude.{◌≡◌, ℕ, ◌+◌, ◌++◌, List, [], ◌∷◌, length, take}
use Rattle.std.specs.List.{concat}
use Rattle.symk_io.specs.View.{Bytes, Tells, Grew, GrewByPart, SinkView}

-- pieces, whole, and then the first bytes of a further one, or none
pub record Sent : Type 0 where
  pub pieces : List Bytes
  pub rest : Bytes

abbrev pub nothing : Sent
nothing = record { pieces = []; rest = [] }

-- The sink took this: one flush went well for each whole piece, and none for the bytes that came after them.
pub record Took (out : Sent) (old new : SinkView) : Type 0 where
  pub bytes : Tells (Grew (concat out.pieces ++ out.rest)) old.taken new.taken
  pub flushes : Tells (λ before after. after ≡ before + length out.pieces) old.flushes new.flushes

-- it took this piece, and one flush went well
pub record TookPiece (text : Bytes) (old new : SinkView) : Type 0 where
  pub bytes : Tells (Grew text) old.taken new.taken
  pub flushes : Tells (λ before after. after ≡ before + 1) old.flushes new.flushes

-- it took the first bytes of this piece, or none, and no flush went well
pub record TookFront (text : Bytes) (old new : SinkView) : Type 0 where
  pub bytes : Tells (GrewByPart text) old.taken new.taken
  pub flushes : Tells (λ before after. after ≡ before) old.flushes new.flushes

-- whole pieces that are so, and nothing after them
abbrev pub AreWholePieces : (List Bytes → Type 0) → Sent → Type 0
AreWholePieces AreSo out = AreSo out.pieces × (out.rest ≡ [])

-- one piece, which is so
abbrev pub IsOne : (Bytes → Type 0) → List Bytes → Type 0
IsOne IsSo pieces = (text : Bytes) × (pieces ≡ text ∷ []) × IsSo text

-- the first bytes of the first of these pieces, or none
abbrev pub IsFrontOfNext : Bytes → List Bytes → Type 0
IsFrontOfNext rest [] = rest ≡ []
IsFrontOfNext rest (next ∷ later) = (n : ℕ) × (rest ≡ take n next)

-- the first of these pieces, whole, and then the first bytes of the next one, or none
pub record IsFrontOfPieces (out : Sent) (whole : List Bytes) : Type 0 where
  pub later : List Bytes
  pub pieces : whole ≡ out.pieces ++ later
  pub rest : IsFrontOfNext out.rest later

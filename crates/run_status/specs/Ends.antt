-- How a run may end, and why.
use Rattle.std.specs.Prelude.{◌≡◌, ℕ, ◌⊎◌, List}
use Rattle.symk_io.specs.View.{Bytes, SinkView}
use Rattle.symk_io.specs.Causes.{Rose}
use Rattle.run_status.specs.Sent.{Sent, nothing, Took, TookPiece, TookFront, AreWholePieces, IsOne, IsFrontOfPieces}
use Rattle.run_status.specs.declared.status.Status.{Status}
use Rattle.run_status.specs.declared.status.Status.TheVariants.{Unreadable, WriteFault, Memory}

-- The whole text went out as one piece under its status, or a part of it and then the status says why.
abbrev pub EndsWithText : Status → Bytes → SinkView → SinkView → Status → Type 0
EndsWithText status text old new result =
    ((result ≡ status) × TookPiece text old new × (new.faults ≡ old.faults))
    ⊎ ((result ≡ WriteFault) × TookFront text old new × Rose old.faults new.faults)
    ⊎ ((result ≡ Memory) × TookFront text old new × (new.faults ≡ old.faults))

-- The causes of a status: unreadable and write fault only where the count of faults rose, and any other status but out of
-- memory only where no count did. The counts are those of the files and the sink, each at entry and at exit.
pub record HasCauses (status : Status) (files files' sink sink' : ℕ) : Type 0 where
  pub unreadable : status ≡ Unreadable → Rose files files'
  pub write : status ≡ WriteFault → Rose sink sink'
  pub quiet : ((status ≡ Unreadable) → ⊥) → ((status ≡ WriteFault) → ⊥) → ((status ≡ Memory) → ⊥) → (files' ≡ files) × (sink' ≡ sink)

-- nothing, or a front of the pieces that a status may come with
abbrev pub FrontOf : (Status → List Bytes → Type 0) → Sent → Type 0
FrontOf MayCome out = (out ≡ nothing) ⊎ ((status : Status) × (whole : List Bytes) × MayCome status whole × IsFrontOfPieces out whole)

-- as one piece
abbrev pub AsOne : (Status → Bytes → Type 0) → Status → List Bytes → Type 0
AsOne MayCome status pieces = IsOne (MayCome status) pieces

-- a text that the status may come with, as one piece, or a front of one where the sink failed or memory ran out
abbrev pub OrFront : (Status → Bytes → Type 0) → Status → Sent → Type 0
OrFront MayCome WriteFault out = FrontOf (AsOne MayCome) out
OrFront MayCome Memory out = FrontOf (AsOne MayCome) out
OrFront MayCome status out = AreWholePieces (AsOne MayCome status) out

-- what went out may come with the status
abbrev pub PutsOutWith : (Status → Sent → Type 0) → SinkView → SinkView → Status → Type 0
PutsOutWith MayCome old new status = (out : Sent) × Took out old new × MayCome status out

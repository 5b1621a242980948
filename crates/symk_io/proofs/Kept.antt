-- Known bytes that grew by nothing.
use Rattle.std.proofs.Common.{◌∙◌, ℕ, List, append-nil, take, Option, Some, None}
use Rattle.std.specs.Io.KnownBytes.{Appends, Keeps}

-- they were kept
pub kept_by_none : (old new : Option (List ℕ)) (bs : List ℕ) → Appends old new (take 0 bs) → Keeps old new
kept_by_none None new bs a = tt
kept_by_none (Some xs) None bs a = absurd a
kept_by_none (Some xs) (Some ys) bs a = a ∙ append-nil xs

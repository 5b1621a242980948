-- Which texts are too long.
use Rattle.std.specs.Prelude.{◌≡◌, ◌⊎◌, ◌<◌, ◌≤◌, length, ⊤, Option, Some, None}
use Rattle.symk_io.specs.View.{Bytes, Told}
use Rattle.symk_cli.specs.Wishes.{Wish, lists, continues, checks, shows, proves, refutes}
use Rattle.symk_cli.specs.Named.{HasText}
use Rattle.symk_cli.specs.Refusals.{most_bytes, FileOffence}
use Rattle.run_status.specs.declared.status.Status.{Status}
use Rattle.run_status.specs.declared.status.Status.TheVariants as status

-- the text of the name has at most 268,435,456 bytes
abbrev pub IsShort : Option Told → Bytes → Type 0
IsShort told name = HasText told name (λ text. length text ≤ most_bytes)

-- it has more
abbrev pub IsLong : Option Told → Bytes → Type 0
IsLong told name = HasText told name (λ text. most_bytes < length text)

-- it has at most so many, and a line of it is the first at which no task file can go on so
abbrev pub IsOffending : Option Told → Bytes → Type 0
IsOffending told name = HasText told name (λ text. (out : Bytes) × FileOffence text out)

-- where FILE alone is read: too long only where it is, an offending line only where it isn't and offends, and any other end only
-- where it isn't
abbrev pub FileLengths : Option Told → Bytes → Status → Type 0
FileLengths told file status.TooLong = IsLong told file
FileLengths told file status.Usage = ⊤
FileLengths told file status.Unreadable = ⊤
FileLengths told file status.WriteFault = ⊤
FileLengths told file status.Memory = ⊤
FileLengths told file status.Offending = IsOffending told file
FileLengths told file result = IsShort told file

-- where PLANS or CERT is read too: too long only where FILE is, or the other after a FILE that isn't; an offending line only where
-- FILE isn't and offends, or neither is; any other end only where neither is
abbrev pub BothLengths : Option Told → Bytes → Bytes → Status → Type 0
BothLengths told file other status.TooLong = IsLong told file ⊎ (IsShort told file × IsLong told other)
BothLengths told file other status.Usage = ⊤
BothLengths told file other status.Unreadable = ⊤
BothLengths told file other status.WriteFault = ⊤
BothLengths told file other status.Memory = ⊤
BothLengths told file other status.Offending = IsOffending told file ⊎ (IsShort told file × IsShort told other)
BothLengths told file other result = IsShort told file × IsShort told other

-- What a status says of the lengths of the texts of the files that are asked for.
abbrev pub Lengths : Option Wish → Option Told → Status → Type 0
Lengths None told result = (result ≡ status.TooLong) → ⊥
Lengths (Some (lists ask)) told result = FileLengths told ask.file result
Lengths (Some (continues ask)) told result = BothLengths told ask.file ask.plans result
Lengths (Some (checks file plans mode)) told result = BothLengths told file plans result
Lengths (Some (shows number)) told result = (result ≡ status.TooLong) → ⊥
Lengths (Some (proves file)) told result = FileLengths told file result
Lengths (Some (refutes file cert)) told result = BothLengths told file cert result

-- Why a file is refused, and the text that says so.
use Rattle.std.specs.Prelude.{◌≡◌, ℕ, ◌<◌, ◌≤◌, ◌++◌, length, Option, IsSomeAnd, codes, decimal}
use Rattle.symk_io.specs.View.{Bytes}
use Rattle.symk_text.specs.Lines.{lines}
use Rattle.symk_task.specs.declared.parts.TaskParts.{TaskParts}
use Rattle.sas_reader.specs.declared.fault.Shape.{Shape}
use Rattle.sas_reader.specs.declared.fault.ReadFault.TheVariants.{Offence}
use Rattle.sas_reader.specs.Format.{IsFileOf}
use Rattle.sas_reader.specs.Refused.{RefusedAt}
use Rattle.sas_reader.specs.Printed.{printed}
use Rattle.symk_cli.specs.declared.reading.Named.{Named}
use Rattle.symk_cli.specs.declared.reading.Named.TheVariants.{File, Plans, Cert}
use Rattle.run_status.specs.declared.status.Status.{Status}
use Rattle.run_status.specs.declared.status.Status.TheVariants as status

-- the greatest number of bytes of a file, a plan text or a certificate
abbrev pub most_bytes : ℕ
most_bytes = 268435456

-- The text is a file of the task, of lawful length.
pub record IsTaskText (F : Bytes) (task : TaskParts) : Type 0 where
  pub short : length F ≤ most_bytes
  pub file : IsFileOf (lines F) task

unfoldable pub unreadable_text : Named → Bytes
unreadable_text File = codes "file unreadable\n"
unreadable_text Plans = codes "plans unreadable\n"
unreadable_text Cert = codes "cert unreadable\n"

unfoldable pub too_long_text : Named → Bytes
too_long_text File = codes "file too long\n"
too_long_text Plans = codes "plans too long\n"
too_long_text Cert = codes "cert too long\n"

-- the line that offends, and what is wanted there
unfoldable pub offence_text : ℕ → Shape → Bytes
offence_text line wanted = codes "line " ++ decimal line ++ codes ": wanted " ++ printed wanted ++ codes "\n"

unfoldable pub plans_offence_text : ℕ → Bytes
plans_offence_text line = codes "plans line " ++ decimal line ++ codes "\n"

-- A text can't be read, which is said only where the count of the files' faults rose, or it has more than 268,435,456 bytes. What
-- `rose` says is that the count did.
abbrev pub TextRefused : Type 0 → Named → Option Bytes → Status → Bytes → Type 0
TextRefused rose named read status.Unreadable out = rose × (out ≡ unreadable_text named)
TextRefused rose named read status.TooLong out = IsSomeAnd read (λ text. most_bytes < length text) × (out ≡ too_long_text named)
TextRefused rose named read result out = ⊥

-- The text names the first line of FILE at which no task file can go on so, and what has to stand there.
pub record FileOffence (F out : Bytes) : Type 0 where
  pub short : length F ≤ most_bytes
  pub line : ℕ
  pub wanted : Shape
  pub offends : RefusedAt (lines F) (Offence line wanted)
  pub text : out ≡ offence_text line wanted

-- FILE is refused under the status, with the text
abbrev pub FileRefused : Type 0 → Option Bytes → Status → Bytes → Type 0
FileRefused rose F status.Offending out = IsSomeAnd F (λ text. FileOffence text out)
FileRefused rose F result out = TextRefused rose File F result out

-- FILE is a task file of lawful length
abbrev pub IsTask : Option Bytes → Type 0
IsTask F = IsSomeAnd F (λ text. (task : TaskParts) × IsTaskText text task)

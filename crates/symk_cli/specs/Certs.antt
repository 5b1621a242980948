-- Certificates that a task has no plan: why CERT is refused, and what one shows.
use Rattle.std.specs.Prelude.{◌≤◌, length, Option, Some, None, IsSomeAnd}
use Rattle.symk_io.specs.View.{Bytes, Told}
use Rattle.symk_text.specs.Lines.{lines}
use Rattle.symk_task.specs.declared.parts.TaskParts.{TaskParts}
use Rattle.certificates.specs.declared.node.Certificate.{Certificate}
use Rattle.certificates.specs.Texts.{state_width, IsCertOf}
use Rattle.cert_run.specs.Proofs.{CertOffence, IsUnsolvable}
use Rattle.symk_cli.specs.Wishes.{Wish, proves, refutes}
use Rattle.symk_cli.specs.Named.{HasText}
use Rattle.symk_cli.specs.Refusals.{most_bytes, IsTaskText, IsTask, TextRefused}
use Rattle.symk_cli.specs.declared.reading.Named.TheVariants as named
use Rattle.run_status.specs.declared.status.Status.{Status}
use Rattle.run_status.specs.declared.status.Status.TheVariants as status

-- The text is that of a certificate for the task, of lawful length.
pub record IsCertText (task : TaskParts) (C : Bytes) : Type 0 where
  pub short : length C ≤ most_bytes
  pub states : (cert : Certificate) × IsCertOf (state_width task) (lines C) cert

-- FILE states a task, CERT has lawful length, and both are so
abbrev pub BothAre : Option Bytes → Option Bytes → (TaskParts → Bytes → Type 0) → Type 0
BothAre F C AreSo = IsSomeAnd F (λ text. (task : TaskParts) × IsTaskText text task × IsSomeAnd C (λ bytes. (length bytes ≤ most_bytes) × AreSo task bytes))

-- CERT is refused under the status, with the text, after a FILE that is a task file
abbrev pub CertRefused : Type 0 → Option Bytes → Option Bytes → Status → Bytes → Type 0
CertRefused rose F C status.Offending out = BothAre F C (λ task bytes. CertOffence task bytes out)
CertRefused rose F C result out = IsTask F × TextRefused rose named.Cert C result out

-- FILE states a task that has no plan
abbrev pub StatesUnsolvable : Option Told → Bytes → Type 0
StatesUnsolvable told file = HasText told file (λ text. (task : TaskParts) × IsTaskText text task × IsUnsolvable task)

-- a certificate is asked for, or a verdict on one, and FILE states a task that has no plan
abbrev pub IsCertSettled : Option Wish → Option Told → Type 0
IsCertSettled (Some (proves file)) told = StatesUnsolvable told file
IsCertSettled (Some (refutes file cert)) told = StatesUnsolvable told file
IsCertSettled wish told = ⊥

-- What goes out of a certificate, written or checked, under which status.
use Rattle.std.specs.Prelude.{◌≡◌, ℕ, ◌++◌, List, codes, decimal}
use Rattle.symk_io.specs.View.{Bytes}
use Rattle.symk_text.specs.Lines.{lines}
use Rattle.symk_task.specs.declared.parts.TaskParts.{TaskParts}
use Rattle.symk_task.specs.Plans.{IsPlan}
use Rattle.certificates.specs.declared.node.Certificate.{Certificate}
use Rattle.certificates.specs.Meaning.{Named}
use Rattle.certificates.specs.Texts.{state_width, IsCertOf}
use Rattle.cert_check.specs.declared.fault.CertFault.TheVariants.{Offence}
use Rattle.cert_check.specs.declared.judging.CertPart.{CertPart}
use Rattle.cert_check.specs.declared.judging.CertPart.TheVariants.{Initial, Step, Goal}
use Rattle.cert_check.specs.declared.judging.CertVerdict.{CertVerdict}
use Rattle.cert_check.specs.declared.judging.CertVerdict.TheVariants.{Yes, No}
use Rattle.cert_check.specs.Judging.{JudgesCert}
use Rattle.cert_check.specs.Refused.{CertRefusedAt}
use Rattle.cert_out.specs.Written.{IsProof}
use Rattle.run_status.specs.declared.status.Status.{Status}
use Rattle.run_status.specs.declared.status.Status.TheVariants.{Proved, HasPlan, Refuted, NotShown, Offending}

-- some list of operators is a plan
abbrev pub IsSolvable : TaskParts → Type 0
IsSolvable task = (p : List ℕ) × IsPlan task p

-- none is
abbrev pub IsUnsolvable : TaskParts → Type 0
IsUnsolvable task = (p : List ℕ) → ¬ IsPlan task p

-- Writing.

unfoldable pub has_plan_text : Bytes
has_plan_text = codes "has a plan\n"

-- the text is a certificate that no plan exists, or says that one does
abbrev pub Proves : TaskParts → Status → Bytes → Type 0
Proves task Proved text = IsProof task text × IsUnsolvable task
Proves task HasPlan text = (text ≡ has_plan_text) × IsSolvable task
Proves task result text = ⊥

-- Checking.

unfoldable pub no_plan_text : Bytes
no_plan_text = codes "no plan\n"

-- the part of being inductive that fails
unfoldable pub part_text : CertPart → Bytes
part_text Initial = codes "initial state"
part_text (Step op) = codes "operator " ++ decimal op
part_text Goal = codes "goal"

unfoldable pub not_shown_text : CertPart → Bytes
not_shown_text part = codes "not shown: " ++ part_text part ++ codes "\n"

-- the line that offends
unfoldable pub cert_offence_text : ℕ → Bytes
cert_offence_text line = codes "cert line " ++ decimal line ++ codes "\n"

-- the bytes are the text of a certificate, and the verdict is true of the states that it names
abbrev pub IsJudged : TaskParts → Bytes → CertVerdict → Type 0
IsJudged task bytes verdict = (cert : Certificate) × IsCertOf (state_width task) (lines bytes) cert × JudgesCert task (Named task cert) verdict

-- The states are not inductive, and the text names the first part that fails.
pub record MissesPart (task : TaskParts) (bytes out : Bytes) : Type 0 where
  pub part : CertPart
  pub judged : IsJudged task bytes (No part)
  pub text : out ≡ not_shown_text part

-- The bytes are the text of no certificate, and the text names the first line at which none can go on so.
pub record CertOffence (task : TaskParts) (bytes out : Bytes) : Type 0 where
  pub line : ℕ
  pub offends : CertRefusedAt (state_width task) (lines bytes) (Offence line)
  pub text : out ≡ cert_offence_text line

-- the text says what the bytes show: that no plan exists, which part they don't show, or which line of them offends
abbrev pub Refutes : TaskParts → Bytes → Status → Bytes → Type 0
Refutes task bytes Refuted text = IsJudged task bytes Yes × (text ≡ no_plan_text)
Refutes task bytes NotShown text = MissesPart task bytes text
Refutes task bytes Offending text = CertOffence task bytes text
Refutes task bytes result text = ⊥

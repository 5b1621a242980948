-- What a written certificate is.
use Rattle.std.specs.Prelude.{◌≡◌, ℕ, List}
use Rattle.symk_text.specs.Lines.{lines}
use Rattle.symk_task.specs.declared.parts.TaskParts.{TaskParts}
use Rattle.certificates.specs.declared.node.Certificate.{Certificate}
use Rattle.certificates.specs.Inductive.{IsInductive}
use Rattle.certificates.specs.Meaning.{Named}
use Rattle.certificates.specs.Texts.{state_width, IsCertOf}
use Rattle.certificates.specs.Tidy.{IsTidy}
use Rattle.cert_out.specs.CertText.{cert_text}

-- The text is the canonical one of a certificate of an inductive set, with nothing to spare, and its lines are those of the
-- certificate.
pub record IsProof (task : TaskParts) (text : List ℕ) : Type 0 where
  pub cert : Certificate
  pub is_text : text ≡ cert_text (state_width task) cert
  pub states : IsCertOf (state_width task) (lines text) cert
  pub inductive : IsInductive task (Named task cert)
  pub tidy : IsTidy cert

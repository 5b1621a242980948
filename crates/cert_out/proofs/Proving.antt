-- What is written of a closed set is a certificate that the task has no plan.
use Rattle.std.proofs.Common.{◌≡◌, ℕ, ◌+◌, ◌^◌, ◌<◌, ◌≤◌, List, length, sym, ◌∙◌, ap, subst, arith}
use Rattle.symk_text.specs.Lines.{lines}
use Rattle.symk_task.specs.declared.parts.TaskParts.{TaskParts}
use Rattle.var_order.specs.Layout.{Layout, IsOrderOf, bits}
use Rattle.certificates.specs.declared.node.Certificate.{Certificate}
use Rattle.certificates.specs.Inductive.{IsInductive}
use Rattle.certificates.specs.Meaning.{Named}
use Rattle.certificates.specs.Texts.{state_width, IsInOrder, IsCertOf}
use Rattle.certificates.specs.Tidy.{IsTidy}
use Rattle.cert_out.specs.CertText.{cert_text}
use Rattle.cert_out.specs.Written.{IsProof}
use Rattle.cert_out.proofs.TextLines.{text_states}

pub proof_of : {task : TaskParts} {o : Layout} {width : ℕ} {cert : Certificate} {text : List ℕ} → IsOrderOf task o
    → width ≡ bits o → width ≤ 65536 → IsInOrder (state_width task) cert → length cert.nodes + 2 < 2 ^ 63
    → IsTidy cert → IsInductive task (Named task cert) → text ≡ cert_text width cert → IsProof task text
proof_of {task} {o} {width} {cert} {text} order wide most in_order few tidy inductive written =
    let same : width ≡ state_width task = wide ∙ order.bits in
    let is : text ≡ cert_text (state_width task) cert = written ∙ ap (λ (w : ℕ). cert_text w cert) same in
    record {
      cert = cert;
      is_text = is;
      states = subst (λ (bytes : List ℕ). IsCertOf (state_width task) (lines bytes) cert) (sym is)
          (text_states (state_width task) cert (omega (arith, most, same)) (omega (arith, few)) in_order);
      inductive = inductive;
      tidy = tidy;
    }

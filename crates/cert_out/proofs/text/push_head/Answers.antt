use Rattle.std.proofs.Common.{◌++◌, ◌∷◌, [], ℕ, ap, ◌∙◌, codes}
use Rattle.sas_writer.specs.Spelling.{text_of}
use Rattle.sas_writer.proofs.Growth.{then, on_ok}
use Rattle.cert_out.specs.CertText.{numbered_line}
use Rattle.cert_out.proofs.text.push_head.Goals as goal

pub returns : goal.returns
returns c =
    let t = c.args.text.now in
    let version = codes "symk-cert 1" ∷ [] in
    let bits = numbered_line (codes "bits ") c.args.width ∷ [] in
    let to_bits = then t version bits c.in_ok-push_word.ensures
    (c.in_ok-push_numbered.ensures ∙ ap (λ (n : ℕ). c.push_word.new.text ++ text_of
    (numbered_line (codes "bits ") n ∷ [])) c.from.ensures) in
    on_ok c.push_numbered-2.result _ _ (λ e. then t (version ++ bits) (numbered_line (codes "nodes ") c.args.count ∷ []) to_bits e) c.push_numbered-2.ensures

use Rattle.std.proofs.Common.{◌≡◌, ◌∙◌, ap}
use Rattle.bdd_table.proofs.Adding.{ok_by}
use Rattle.var_order.specs.Layout.{Layout, bits}
use Rattle.cert_out.proofs.Proving.{proof_of}
use Rattle.cert_out.proofs.writing.text_of.Goals as goal

pub returns : goal.returns
returns c =
    let e = c.args.space.now in
    ok_by c.cert_text.result _ _ c.cert_text.ensures (λ text written.
    proof_of c.order.ensures.order
    (c.bits.ensures.value ∙ ap (λ (o : Layout). bits o) c.order.ensures.is) c.bits.ensures.most
    c.in_ok-cert.ensures.in_order c.in_ok-cert.ensures.few c.in_ok-cert.ensures.tidy c.in_ok-cert.ensures.inductive written)

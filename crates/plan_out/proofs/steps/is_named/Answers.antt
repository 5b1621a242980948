use Rattle.std.proofs.Common.{◌≡◌, refl, sym, ap, ◌∙◌}
use Rattle.std.proofs.lemmas.Bool.Decides.{Decides-eqb}
use Rattle.std.proofs.lemmas.Slice.Eq.{slice_eq-Decides}
use Rattle.symk_task.specs.declared.parts.Operator.{Operator}
use Rattle.plan_out.specs.Fails.{name_of}
use Rattle.plan_out.proofs.Growth.{named}
use Rattle.plan_out.proofs.steps.is_named.Goals as goal

pub returns : goal.returns
returns c =
    let all = c.args.all.now in
    let op = c.args.operator in
    let o = c.index-all-operator.result in
    let right : c.as_slice-2.result.now ≡ name_of all op = c.as_slice-2.ensures
    ∙ ap (λ (o : Operator). o.name) (sym c.index-all-operator.is)
    ∙ named all all op o refl c.requires c.index-all-operator.is in
    let d = slice_eq-Decides Decides-eqb c.as_slice.result.now c.as_slice-2.result.now c.eq.result c.eq.ensures in
    (λ t. sym c.as_slice.ensures ∙ d.0 t ∙ right, λ h. d.1 (c.as_slice.ensures ∙ h ∙ sym right))

use Rattle.std.proofs.Common.{◌∙◌, List, ℕ, sym, subst, ap}
use Rattle.symk_task.specs.declared.parts.TaskParts.{TaskParts}
use Rattle.task_run.specs.Values.{Valued}
use Rattle.task_run.proofs.Stepping.{operator_at}
use Rattle.task_run.proofs.Applying.{applies_law, below}
use Rattle.task_run.proofs.steps.applies_in.Goals as goal

pub applies_by-requires : goal.applies_by-requires
applies_by-requires c =
    let at = operator_at c.args.task.now c.as_slice.result.now c.args.operator c.index-as_slice-operator.result
    c.parts-parts.ensures.fits (c.as_slice.ensures ∙ ap (λ (x : TaskParts). x.operators)
    c.parts-parts.ensures.value) c.requires.operator c.index-as_slice-operator.is in
    let valued = subst (λ (z : List ℕ). Valued c.args.task.now c.args.state.now z) (sym c.as_slice-2.ensures) c.requires.valued in
    let b = below c.args.task.now c.as_slice-2.result.now c.index-as_slice-operator.result valued.each at.1 in
    record { prevail = b.0; effects = b.1 }

pub returns : goal.returns
returns c =
    let at = operator_at c.args.task.now c.as_slice.result.now c.args.operator c.index-as_slice-operator.result
    c.parts-parts.ensures.fits (c.as_slice.ensures ∙ ap (λ (x : TaskParts). x.operators)
    c.parts-parts.ensures.value) c.requires.operator c.index-as_slice-operator.is in
    let valued = subst (λ (z : List ℕ). Valued c.args.task.now c.args.state.now z) (sym c.as_slice-2.ensures) c.requires.valued in
    let l = applies_law c.args.task.now c.args.state.now c.as_slice-2.result.now c.args.operator c.index-as_slice-operator.result valued at.0 at.1 in
    ((λ e. l.0 (c.applies_by.ensures.0 e)), (λ h. c.applies_by.ensures.1 (l.1 h)))

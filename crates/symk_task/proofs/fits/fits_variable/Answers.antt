use Rattle.std.proofs.Common.{◌∙◌, sym, subst}
use Rattle.symk_task.specs.Fits.{FitsRange}
use Rattle.symk_task.proofs.fits.fits_variable.Goals as goal
use Rattle.symk_task.proofs.fits.fits_variable.Goals.{then-is_name, else-is_name}

pub returns-then-are_names : goal.returns-then-are_names
returns-then-are_names c = elim c.if-is_name.branch [
  | then-is_name w ↦ (
    (λ t. record {
      name = c.is_name.ensures.0 w.if-is_name.true;
      values = w.are_names.ensures.0 (sym w.value-is ∙ c.if-are_names.true);
      range = subst (FitsRange c.args.variable.now.layer) c.len.ensures (c.fits_range.ensures.0 t);
    }),
    (λ h. c.fits_range.ensures.1 (subst (FitsRange c.args.variable.now.layer) (sym c.len.ensures) h.range)),
  )
  | else-is_name w ↦ absurd (let never = w.value-is in let yes = c.if-are_names.true in cc)
]

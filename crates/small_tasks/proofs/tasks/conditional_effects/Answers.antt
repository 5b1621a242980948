use Rattle.std.proofs.Common.{sym, subst}
use Rattle.symk_task.specs.Fits.{Fits}
use Rattle.small_tasks.proofs.Fitting.{conditional_effects_fits}
use Rattle.small_tasks.proofs.tasks.conditional_effects.Goals as goal

pub of-requires : goal.of-requires
of-requires c = subst Fits (sym c.in_ok-conditional_effects.ensures) conditional_effects_fits

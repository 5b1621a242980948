use Rattle.std.proofs.Common.{sym, subst}
use Rattle.symk_task.specs.Fits.{Fits}
use Rattle.small_tasks.proofs.Fitting.{later_effect_undoes_fits}
use Rattle.small_tasks.proofs.tasks.later_effect_undoes.Goals as goal

pub of-requires : goal.of-requires
of-requires c = subst Fits (sym c.in_ok-later_effect_undoes.ensures) later_effect_undoes_fits

use Rattle.std.proofs.Common.{sym, subst}
use Rattle.symk_task.specs.Fits.{Fits}
use Rattle.small_tasks.proofs.Fitting.{switch_and_back_fits}
use Rattle.small_tasks.proofs.tasks.switch_and_back.Goals as goal

pub of-requires : goal.of-requires
of-requires c = subst Fits (sym c.in_ok-switch_and_back.ensures) switch_and_back_fits

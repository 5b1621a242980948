use Rattle.std.proofs.Common.{sym, subst}
use Rattle.symk_task.specs.Fits.{Fits}
use Rattle.small_tasks.proofs.Fitting.{near_and_far_fits}
use Rattle.small_tasks.proofs.tasks.near_and_far.Goals as goal

pub of-requires : goal.of-requires
of-requires c = subst Fits (sym c.in_ok-near_and_far.ensures) near_and_far_fits

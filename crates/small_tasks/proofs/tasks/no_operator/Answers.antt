use Rattle.std.proofs.Common.{sym, subst}
use Rattle.symk_task.specs.Fits.{Fits}
use Rattle.small_tasks.proofs.Fitting.{no_operator_fits}
use Rattle.small_tasks.proofs.tasks.no_operator.Goals as goal

pub of-requires : goal.of-requires
of-requires c = subst Fits (sym c.in_ok-no_operator.ensures) no_operator_fits

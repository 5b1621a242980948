use Rattle.std.proofs.Common.{sym, subst}
use Rattle.symk_task.specs.Fits.{Fits}
use Rattle.small_tasks.proofs.Fitting.{same_name_twice_fits}
use Rattle.small_tasks.proofs.tasks.same_name_twice.Goals as goal

pub of-requires : goal.of-requires
of-requires c = subst Fits (sym c.in_ok-same_name_twice.ensures) same_name_twice_fits

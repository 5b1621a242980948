use Rattle.std.proofs.Common.{sym, subst}
use Rattle.symk_task.specs.Fits.{Fits}
use Rattle.small_tasks.proofs.Fitting.{two_switches_fits}
use Rattle.small_tasks.proofs.tasks.two_switches.Goals as goal

pub of-requires : goal.of-requires
of-requires c = subst Fits (sym c.in_ok-two_switches.ensures) two_switches_fits

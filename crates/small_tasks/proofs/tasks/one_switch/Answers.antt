use Rattle.std.proofs.Common.{sym, subst}
use Rattle.symk_task.specs.Fits.{Fits}
use Rattle.small_tasks.proofs.Fitting.{one_switch_fits}
use Rattle.small_tasks.proofs.tasks.one_switch.Goals as goal

pub of-requires : goal.of-requires
of-requires c = subst Fits (sym c.in_ok-one_switch.ensures) one_switch_fits

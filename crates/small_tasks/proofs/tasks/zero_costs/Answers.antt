use Rattle.std.proofs.Common.{sym, subst}
use Rattle.symk_task.specs.Fits.{Fits}
use Rattle.small_tasks.proofs.Fitting.{zero_costs_fits}
use Rattle.small_tasks.proofs.tasks.zero_costs.Goals as goal

pub of-requires : goal.of-requires
of-requires c = subst Fits (sym c.in_ok-zero_costs.ensures) zero_costs_fits

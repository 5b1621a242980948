use Rattle.std.proofs.Common.{sym, subst}
use Rattle.symk_task.specs.Fits.{Fits}
use Rattle.small_tasks.proofs.Fitting.{axioms_fits}
use Rattle.small_tasks.proofs.tasks.axioms.Goals as goal

pub of-requires : goal.of-requires
of-requires c = subst Fits (sym c.in_ok-axioms.ensures) axioms_fits

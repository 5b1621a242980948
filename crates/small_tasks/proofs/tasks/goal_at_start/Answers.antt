use Rattle.std.proofs.Common.{sym, subst}
use Rattle.symk_task.specs.Fits.{Fits}
use Rattle.small_tasks.proofs.Fitting.{goal_at_start_fits}
use Rattle.small_tasks.proofs.tasks.goal_at_start.Goals as goal

pub of-requires : goal.of-requires
of-requires c = subst Fits (sym c.in_ok-goal_at_start.ensures) goal_at_start_fits

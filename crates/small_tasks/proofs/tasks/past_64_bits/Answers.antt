use Rattle.std.proofs.Common.{sym, subst}
use Rattle.symk_task.specs.Fits.{Fits}
use Rattle.small_tasks.proofs.Fitting.{past_64_bits_fits}
use Rattle.small_tasks.proofs.tasks.past_64_bits.Goals as goal

pub of-requires : goal.of-requires
of-requires c = subst Fits (sym c.in_ok-past_64_bits.ensures) past_64_bits_fits

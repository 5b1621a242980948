use Rattle.std.proofs.Common.{sym, subst}
use Rattle.symk_task.specs.declared.parts.TaskParts.{TaskParts}
use Rattle.symk_task.specs.Fits.{Fits}
use Rattle.task_gen.proofs.Fitting.{switches_fit}
use Rattle.task_gen.proofs.switches.Goals as goal

pub of-requires : goal.of-requires
of-requires c = subst Fits (sym c.in_ok-switches_parts.ensures) (switches_fit c.args.n c.requires.most)

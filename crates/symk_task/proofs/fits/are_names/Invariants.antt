use Rattle.std.proofs.Common.{take, All}
use Rattle.symk_task.specs.Fits.{IsName}
use Rattle.symk_task.proofs.fits.are_names.Given as goal

abbrev pub invariant-loop-name : goal.invariant-loop-name
invariant-loop-name l = All IsName (take l.name-index l.names)

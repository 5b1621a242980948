use Rattle.std.proofs.Common.{◌≡◌}
use Rattle.task_gen.specs.Switches.{up_to, switched_on}
use Rattle.task_gen.proofs.parts.each_on.Given as goal

abbrev pub invariant-loop-i : goal.invariant-loop-i
invariant-loop-i l = l.items.items ≡ up_to switched_on l.i

use Rattle.std.proofs.Common.{◌≡◌}
use Rattle.task_gen.specs.Switches.{up_to, flip}
use Rattle.task_gen.proofs.parts.flips.Given as goal

abbrev pub invariant-loop-i : goal.invariant-loop-i
invariant-loop-i l = l.items.items ≡ up_to flip l.i

use Rattle.std.proofs.Common.{All}
use Rattle.mutex_use.specs.Groups.{IsBaseGroup}
use Rattle.mutex_use.proofs.joining.of_several.Given as goal

abbrev pub invariant-groups : goal.invariant-groups
invariant-groups l = All (IsBaseGroup l.task) l.left.items

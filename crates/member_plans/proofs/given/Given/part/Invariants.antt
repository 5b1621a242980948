use Rattle.std.proofs.Common.{◌++◌, take}
use Rattle.std.specs.List.Sorted.{IsPermutation}
use Rattle.member_plans.proofs.given.Given.part.Given as goal

abbrev pub invariant-children : goal.invariant-children
invariant-children l = IsPermutation (take l.child-index l.children) (l.here.items ++ l.there.items)

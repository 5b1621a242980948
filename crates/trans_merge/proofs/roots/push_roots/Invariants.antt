use Rattle.std.proofs.Common.{◌≡◌, ◌++◌, take}
use Rattle.trans_merge.specs.Roots.{roots_in}
use Rattle.trans_merge.proofs.roots.push_roots.Given as goal

abbrev pub invariant-loop-relation : goal.invariant-loop-relation
invariant-loop-relation l = l.roots.items ≡ l.fn.roots.items ++ roots_in (take l.relation-index l.relations)

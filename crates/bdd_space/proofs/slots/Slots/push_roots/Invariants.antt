use Rattle.std.proofs.Common.{◌≡◌, ◌++◌, map, take}
use Rattle.bdd_space.specs.Slots.{root_of}
use Rattle.bdd_space.proofs.slots.Slots.push_roots.Given as goal

abbrev pub invariant-loop-slot : goal.invariant-loop-slot
invariant-loop-slot l = l.roots.items ≡ l.initial.roots.items ++ map root_of (take l.slot-index l.self.slots.items)

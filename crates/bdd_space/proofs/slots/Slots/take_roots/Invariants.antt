use Rattle.bdd_space.specs.Slots.{MovedBelow}
use Rattle.bdd_space.proofs.slots.Slots.take_roots.Given as goal

abbrev pub invariant-loop-a : goal.invariant-loop-a
invariant-loop-a l = MovedBelow l.initial.self.slots.items l.roots l.from l.self.slots.items l.a

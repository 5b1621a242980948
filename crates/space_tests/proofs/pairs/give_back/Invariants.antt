use Rattle.space_tests.specs.Pairs.{MovesPairs}
use Rattle.space_tests.proofs.pairs.give_back.Given as goal

abbrev pub invariant-pairs : goal.invariant-pairs
invariant-pairs g l = MovesPairs (g.A.Space.view l.fn.a) (g.A.Space.view l.a) (g.B.Space.view l.fn.b) (g.B.Space.view l.b) l.fn.pairs.items l.pairs.items

abbrev pub decreases-pairs : goal.decreases-pairs
decreases-pairs g l = goal.left-pairs g l

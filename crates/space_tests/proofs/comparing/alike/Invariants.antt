use Rattle.std.proofs.Common.{take, All}
use Rattle.space_tests.specs.Answers.{IsSameBeside}
use Rattle.space_tests.proofs.comparing.alike.Given as goal

abbrev pub invariant-pairs : goal.invariant-pairs
invariant-pairs g l = All (IsSameBeside (g.A.Space.view l.a) (g.B.Space.view l.b) l.pair) (take l.i l.pairs)

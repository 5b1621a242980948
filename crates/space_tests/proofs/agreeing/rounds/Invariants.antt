use Rattle.space_tests.proofs.Rounding.{InRounds}
use Rattle.space_tests.proofs.agreeing.rounds.Given as goal

abbrev pub invariant-rounds : goal.invariant-rounds
invariant-rounds g l = InRounds l.counter (g.A.Space.view l.fn.a) (g.A.Space.view l.a) (g.B.Space.view l.fn.b) (g.B.Space.view l.b) l.pairs.items

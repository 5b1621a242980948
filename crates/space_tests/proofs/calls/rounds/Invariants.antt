use Rattle.space_api.specs.View.{Valid}
use Rattle.space_tests.proofs.calls.rounds.Given as goal

abbrev pub invariant-rounds : goal.invariant-rounds
invariant-rounds g l = Valid (g.S.Space.view l.space) l.init

use Rattle.space_api.specs.Frames.{Kept}
use Rattle.space_tests.proofs.agreement.facts.misses_none.Given as goal

abbrev pub invariant-operators : goal.invariant-operators
invariant-operators g l = Kept (g.S.Space.view l.fn.space) (g.S.Space.view l.space)

use Rattle.bidirectional.proofs.Landed.{Landing}
use Rattle.bidirectional.proofs.landing.landing.Given as goal

abbrev pub invariant-costs : goal.invariant-costs
invariant-costs g l = Landing (g.S.Space.view l.fn.space) (g.S.Space.view l.space) l.meeting l.to l.cost l.z l.i l.landed

use Rattle.std.proofs.Common.{◌≡◌, map, take}
use Rattle.bidirectional.specs.Cutting.{cross_at}
use Rattle.bidirectional.proofs.cutting.cuts_by.Given as goal

abbrev pub invariant-operators : goal.invariant-operators
invariant-operators g l = l.cuts.items ≡ map (cross_at (g.S.Space.view l.space).system l.cost l.z) (take l.op-index l.ops)

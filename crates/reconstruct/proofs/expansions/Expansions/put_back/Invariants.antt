use Rattle.std.proofs.Common.{length}
use Rattle.reconstruct.proofs.Remembering.{PutsBack}
use Rattle.reconstruct.proofs.expansions.Expansions.put_back.Given as goal

abbrev pub invariant-places : goal.invariant-places
invariant-places l = PutsBack l.fn.self l.self l.fn.places.items l.left.items

abbrev pub decreases-places : goal.decreases-places
decreases-places l = length l.left.items

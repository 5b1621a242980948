use Rattle.std.proofs.Common.{◌≡◌, map}
use Rattle.std.specs.List.{range_with_len}
use Rattle.certificates.specs.Listed.{listed_at}
use Rattle.certificates.proofs.listing.nodes_of.Given as goal

abbrev pub invariant-loop-i : goal.invariant-loop-i
invariant-loop-i l = l.nodes ≡ map (listed_at l.table) (range_with_len 0 l.i)

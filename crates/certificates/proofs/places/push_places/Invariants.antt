use Rattle.std.proofs.Common.{◌≡◌, ◌++◌, map}
use Rattle.std.specs.List.{range_with_len}
use Rattle.var_order.specs.Layout.{place_of}
use Rattle.certificates.proofs.places.push_places.Given as goal

abbrev pub invariant-loop-bit : goal.invariant-loop-bit
invariant-loop-bit l = l.places.items ≡ l.fn.places.items ++ map (place_of l.order l.var) (range_with_len 0 l.bit)

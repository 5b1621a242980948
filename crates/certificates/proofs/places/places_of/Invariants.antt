use Rattle.std.proofs.Common.{◌≡◌}
use Rattle.std.specs.List.{range_with_len, flat_map}
use Rattle.certificates.specs.Places.{variable_places}
use Rattle.certificates.proofs.places.places_of.Given as goal

abbrev pub invariant-loop-var : goal.invariant-loop-var
invariant-loop-var l = l.places.items ≡ flat_map (variable_places l.order) (range_with_len 0 l.var)

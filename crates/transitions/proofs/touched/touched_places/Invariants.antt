use Rattle.std.proofs.Common.{◌≡◌}
use Rattle.std.specs.List.{filter, range_with_len}
use Rattle.transitions.specs.Touched.{is_touched}
use Rattle.transitions.proofs.touched.touched_places.Given as goal

abbrev pub invariant-loop-place : goal.invariant-loop-place
invariant-loop-place l = l.places.items ≡ filter (is_touched l.order l.effects) (range_with_len 0 l.place)

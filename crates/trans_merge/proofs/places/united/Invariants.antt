use Rattle.std.proofs.Common.{◌≡◌, ◌||◌}
use Rattle.std.specs.List.{filter, range_with_len}
use Rattle.bdd_ops.specs.Quantified.{is_in}
use Rattle.trans_merge.proofs.places.united.Given as goal

abbrev pub invariant-loop-place : goal.invariant-loop-place
invariant-loop-place l = l.places.items ≡ filter (λ p. is_in l.a p || is_in l.b p) (range_with_len 0 l.place)

use Rattle.std.proofs.Common.{◌≡◌, None, All}
use Rattle.reconstruct.proofs.expansions.empty_places.Given as goal

abbrev pub invariant-loop : goal.invariant-loop
invariant-loop l = All (λ o. o ≡ None) l.places.items

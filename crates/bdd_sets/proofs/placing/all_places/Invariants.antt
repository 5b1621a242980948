use Rattle.std.proofs.Common.{take}
use Rattle.std.specs.List.{AllZip}
use Rattle.bdd_sets.specs.Placed.{ArePlacesOf}
use Rattle.bdd_sets.proofs.placing.all_places.Given as goal

abbrev pub invariant-lists : goal.invariant-lists
invariant-lists l = AllZip (ArePlacesOf l.order l.starts) (take l.facts-index l.lists) l.all.items

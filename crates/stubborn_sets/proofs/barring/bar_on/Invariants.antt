use Rattle.stubborn_sets.specs.Depending.{GrowsMarks}
use Rattle.stubborn_sets.specs.Growing.{AddsNumbers, IsBarring, room}
use Rattle.stubborn_sets.proofs.barring.bar_on.Given as goal

abbrev pub invariant-barring : goal.invariant-barring
invariant-barring l = record {
  grows : GrowsMarks l.fn.barred.marks.items l.barred.marks.items;
  adds : AddsNumbers l.fn.set l.set;
  barring : IsBarring l.parts l.values l.barred l.set;
}

abbrev pub decreases-barring : goal.decreases-barring
decreases-barring l = room l.barred

use Rattle.stubborn_sets.specs.Growing.{AddsNumbers}
use Rattle.stubborn_sets.proofs.GrowingLaw.{adds_trans, on_both}
use Rattle.stubborn_sets.proofs.barring.serve_raised.Goals as goal

pub returns-clause-adds : goal.returns-clause-adds
returns-clause-adds c =
    let old = c.args.set.now in
    let mid = c.bar_raised.new.set in
    let new = c.add_makers.new.set in
    on_both c.add_makers.result (AddsNumbers mid new) (AddsNumbers mid new) (AddsNumbers old new)
    (λ adds _. adds_trans old mid new c.in_ok-bar_raised.ensures.adds adds) c.add_makers.ensures.adds
    c.add_makers.ensures.adds

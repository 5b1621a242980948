use Rattle.std.proofs.Common.{Bool, false, IsTrue, List, length, ap, ◌∙◌, arith}
use Rattle.std.proofs.Math.ListN.{length-replicate}
use Rattle.stubborn_sets.specs.Depending.{GrowsMarks}
use Rattle.stubborn_sets.specs.Barring.{AreBarredRules, IsBarred}
use Rattle.stubborn_sets.proofs.GrowingLaw.{if_both}
use Rattle.stubborn_sets.proofs.Stopping.{barring_begins}
use Rattle.stubborn_sets.proofs.barring.bar_raised.Goals as goal

pub add-requires : goal.add-requires
add-requires c =
    let l = ap (λ (z : List Bool). length z) c.in_ok-barred.ensures.marks ∙ length-replicate c.len.result false in
    omega (arith, l, c.len.ensures, c.requires.within)

pub bar_on-requires-clause-barring : goal.bar_on-requires-clause-barring
bar_on-requires-clause-barring c =
    barring_begins c.args.parts.now c.args.values.now c.in_ok-barred.barred c.add.new.self c.args.set.now c.len.result
    c.len.ensures c.in_ok-barred.ensures.marks c.in_ok-barred.ensures.waiting c.in_ok-add.ensures.adds

pub returns-clause-barred : goal.returns-clause-barred
returns-clause-barred c =
    let parts = c.args.parts.now in
    let values = c.args.values.now in
    let old = c.add.new.self.marks.items in
    let barred = c.bar_on.new.barred.marks.items in
    let marks = c.bar_on.new.set.marks.items in
    if_both c.bar_on.result (λ (all : Bool). IsTrue all → GrowsMarks old barred)
    (λ all. IsTrue all → AreBarredRules parts values barred marks parts.rules)
    (λ all. IsTrue all → IsBarred parts values marks c.args.fact)
    (λ all grows bars yes. record { barred = barred; raises = (c.requires.raising, grows yes c.args.fact.var c.in_ok-add.ensures.has); rules = bars yes })
    c.bar_on.ensures.grows c.bar_on.ensures.bars

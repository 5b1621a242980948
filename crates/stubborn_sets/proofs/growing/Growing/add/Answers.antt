use Rattle.std.proofs.Common.{true, IsTrue, refl}
use Rattle.std.specs.Vec.{with_item}
use Rattle.stubborn_sets.specs.Closing.{has_mark}
use Rattle.stubborn_sets.proofs.GrowingLaw.{adds_new}
use Rattle.stubborn_sets.proofs.growing.Growing.add.Goals as goal

pub returns-clause-adds : goal.returns-clause-adds
returns-clause-adds c =
    let old = c.args.self.now in
    let number = c.args.number in
    let e = c.index.ensures in
    let f = c.if-index.false in
    let off : ¬ IsTrue (has_mark old.marks.items number) = λ h. (cc (e, f, h)) in
    adds_new old (record { marks = with_item old.marks number true; waiting = c.push.new.self }) number c.requires off refl c.in_ok-push.ensures.items

use Rattle.stubborn_sets.proofs.CommuteLaw.{IsTaken, test_law}
use Rattle.stubborn_sets.proofs.testing.commute.Goals as goal

pub returns-then-meet_on_all : goal.returns-then-meet_on_all
returns-then-meet_on_all c = λ yes.
    let task = c.args.task.now in
    let operators = c.as_slice-operators.result.now in
    let first : IsTaken task operators c.args.one c.index-operators-one.result c.as_slice.result.now =
    record { within = c.requires.one; is = c.index-operators-one.is; has = c.as_slice.ensures } in
    let second : IsTaken task operators c.args.other c.index-operators-other.result
    c.as_slice-then-meet_on_all.result.now =
    record { within = c.requires.other; is = c.index-operators-other.is; has = c.as_slice-then-meet_on_all.ensures } in
    test_law c.parts-parts.ensures.fits c.parts-parts.ensures.value c.as_slice-operators.ensures first second
    (c.meet_on_all.ensures c.if-meet_on_all.true) (c.meet_on_all-then-meet_on_all.ensures yes)

use Rattle.std.proofs.Common.{arith}
use Rattle.bdd_sets.proofs.Descending.{all_in_order}
use Rattle.bdd_sets.proofs.occurring.in_order.Goals as goal

pub returns : goal.returns
returns c =
    let value = c.bits-place-end.ensures.value in
    let t = c.places-test.false in
    let a = c.places.auto.place-end in
    all_in_order c.args.order.now c.places.slots.items c.places.place c.blocks-blocks.ensures.layout (omega (arith, value, t, a)) c.places.invariant

use Rattle.std.proofs.Common.{length, refl, arith}
use Rattle.std.proofs.lemmas.Option.{slice_get_read}
use Rattle.goal_ranks.specs.Giving.{SlotSet, InSlot}
use Rattle.goal_ranks.proofs.Giving.{none_yet, next_valid, more_given, all_given, slot_set, slot_low}
use Rattle.goal_ranks.proofs.release.forget_slots.Goals as goal

pub slots-init : goal.slots-init
slots-init g c = none_yet (g.S.Space.view c.args.space.now) (SlotSet c.args.slots.now)

pub forget_slot-requires : goal.forget_slot-requires
forget_slot-requires g c = λ a h.
    let xs = c.args.slots.now in
    let at = slice_get_read xs (length xs) c.slots.i c.index-slots-i.result refl (omega (arith, c.slots-test.true)) c.index-slots-i.is in
    let s = (slot_set xs c.slots.i c.index-slots-i.result at a).1 h in
    next_valid (SlotSet xs) c.slots.i c.slots.invariant a c.requires.once s (c.requires.valid c.slots.i a s)

pub slots-preserved : goal.slots-preserved
slots-preserved g c =
    let xs = c.args.slots.now in
    let o = c.index-slots-i.result in
    let at = slice_get_read xs (length xs) c.slots.i o refl (omega (arith, c.slots-test.true)) c.index-slots-i.is in
    more_given (SlotSet xs) c.slots.i (InSlot o) (slot_set xs c.slots.i o at) c.slots.invariant c.forget_slot.ensures

pub returns : goal.returns
returns g c =
    let xs = c.args.slots.now in
    all_given (SlotSet xs) c.slots.i (λ i a h. let lt = slot_low xs i a h in omega (arith, lt, c.slots-test.false)) c.slots.invariant

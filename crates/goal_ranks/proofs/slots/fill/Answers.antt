use Rattle.std.proofs.Common.{◌≡◌, ℕ, List, length, Some, None, slice_get, refl, subst, arith}
use Rattle.goal_ranks.specs.Slots.{FillsSlot}
use Rattle.goal_ranks.proofs.Slotting.{slot_push}
use Rattle.goal_ranks.proofs.Nearing.{put_work}
use Rattle.goal_ranks.proofs.slots.fill.Goals as goal

pub returns-clause-work : goal.returns-clause-work
returns-clause-work g c =
    let get = subst (λ (xs : List _). slice_get xs c.in-Some.index ≡ Some None) c.deref.ensures.value (c.is_free.ensures c.if-is_free.true) in
    put_work c.args.slots.now.items c.args.slots.now.items c.in-Some.index None c.args.waiting refl get refl

pub returns-2-clause-ok : goal.returns-2-clause-ok
returns-2-clause-ok g c =
    let old = c.args.slots.now.items in
    let last : length old ≡ c.len-last.result = grind (arith, c.len-last.ensures) in
    subst (λ (n : ℕ). FillsSlot old c.push.new.self.items c.args.waiting n) last (slot_push old c.push.new.self.items c.args.waiting c.in_ok-push.ensures.items)

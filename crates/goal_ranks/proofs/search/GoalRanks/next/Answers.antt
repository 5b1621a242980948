use Rattle.goal_ranks.specs.Lists.{IsFirst}
use Rattle.std.proofs.Common.{inl, inr, subst}
use Rattle.goal_ranks.proofs.Knowing.{key_bound, none_waits, keys_below, no_keys}
use Rattle.goal_ranks.proofs.search.GoalRanks.next.Goals as goal

pub returns-in-Nothing-clause-least : goal.returns-in-Nothing-clause-least
returns-in-Nothing-clause-least g c = λ v k x s h.
    let f = c.args.self.now in
    let n = subst (IsFirst f.slots.items f.ranks.items) c.in-Nothing.is c.first.ensures in
    no_keys v.system v f.left f.ranks.items f.slots.items n.0 n.1 k x s h

pub returns-in-Nothing-clause-closed : goal.returns-in-Nothing-clause-closed
returns-in-Nothing-clause-closed g c = λ v z s out d inside.
    let f = c.args.self.now in
    let n = subst (IsFirst f.slots.items f.ranks.items) c.in-Nothing.is c.first.ensures in
    none_waits v f z (no_keys v.system v f.left f.ranks.items f.slots.items n.0 n.1) s out d inside

pub returns-in-Slot-clause-least : goal.returns-in-Slot-clause-least
returns-in-Slot-clause-least g c = λ v.
    let f = c.args.self.now in
    let n = subst (IsFirst f.slots.items f.ranks.items) c.in-Slot.is c.first.ensures in
    keys_below v.system v f.left f.ranks.items f.slots.items c.in-Slot.least.key n.1

pub returns-in-Slot-clause-bound : goal.returns-in-Slot-clause-bound
returns-in-Slot-clause-bound g c = λ v z s out a d run inside lt.
    let f = c.args.self.now in
    let n = subst (IsFirst f.slots.items f.ranks.items) c.in-Slot.is c.first.ensures in
    key_bound v f z c.in-Slot.least.key (keys_below v.system v f.left f.ranks.items f.slots.items c.in-Slot.least.key n.1) s out a d run inside lt

pub returns-in-Arcs-clause-least : goal.returns-in-Arcs-clause-least
returns-in-Arcs-clause-least g c = λ v.
    let f = c.args.self.now in
    let n = subst (IsFirst f.slots.items f.ranks.items) c.in-Arcs.is c.first.ensures in
    keys_below v.system v f.left f.ranks.items f.slots.items c.in-Arcs.least.key n.1

pub returns-in-Arcs-clause-bound : goal.returns-in-Arcs-clause-bound
returns-in-Arcs-clause-bound g c = λ v z s out a d run inside lt.
    let f = c.args.self.now in
    let n = subst (IsFirst f.slots.items f.ranks.items) c.in-Arcs.is c.first.ensures in
    key_bound v f z c.in-Arcs.least.key (keys_below v.system v f.left f.ranks.items f.slots.items c.in-Arcs.least.key n.1) s out a d run inside lt

pub returns-in-Nothing-clause-key : goal.returns-in-Nothing-clause-key
returns-in-Nothing-clause-key g c = λ k h.
    let f = c.args.self.now in
    let n = subst (IsFirst f.slots.items f.ranks.items) c.in-Nothing.is c.first.ensures in
    elim h [ inl i ↦ n.0 i.0 k i.1 | inr i ↦ n.1 i.0 k i.1 ]

pub returns-in-Slot-clause-key : goal.returns-in-Slot-clause-key
returns-in-Slot-clause-key g c =
    let f = c.args.self.now in
    let n = subst (IsFirst f.slots.items f.ranks.items) c.in-Slot.is c.first.ensures in
    (inl (c.in-Slot.least.index, n.0), n.1)

pub returns-in-Arcs-clause-key : goal.returns-in-Arcs-clause-key
returns-in-Arcs-clause-key g c =
    let f = c.args.self.now in
    let n = subst (IsFirst f.slots.items f.ranks.items) c.in-Arcs.is c.first.ensures in
    (inr (c.in-Arcs.least.index, n.0), n.1)

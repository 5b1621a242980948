use Rattle.std.proofs.Common.{inl}
use Rattle.reconstruct.proofs.Sets.{second_valid, two_back, distinct_split, in_append}
use Rattle.reconstruct.proofs.children.give_back_children.Goals as goal

pub give_back_entries-requires-clause-valid : goal.give_back_entries-requires-clause-valid
give_back_entries-requires-clause-valid g c = λ a h. c.requires.valid a
    ((in_append c.args.children.now.level.items c.args.children.now.falling.items a).1
    (inl (rw c.deref.ensures.value at h)))

pub give_back_entries-requires-clause-distinct : goal.give_back_entries-requires-clause-distinct
give_back_entries-requires-clause-distinct g c = rw c.deref.ensures.value
    (distinct_split c.args.children.now.level.items c.args.children.now.falling.items c.requires.distinct).0

pub give_back_entries-requires-2-clause-valid : goal.give_back_entries-requires-2-clause-valid
give_back_entries-requires-2-clause-valid g c =
    let view = g.S.Space.view in
    let t = rw c.deref.ensures.value at c.give_back_entries.ensures in
    λ a h. second_valid (view c.args.space.now) (view c.give_back_entries.new.space)
    (view c.give_back_entries.new.space) c.args.children.now.level.items c.args.children.now.falling.items
    c.requires.distinct c.requires.valid t a (rw c.deref-2.ensures.value at h)

pub give_back_entries-requires-2-clause-distinct : goal.give_back_entries-requires-2-clause-distinct
give_back_entries-requires-2-clause-distinct g c = rw c.deref-2.ensures.value
    (distinct_split c.args.children.now.level.items c.args.children.now.falling.items c.requires.distinct).1

pub returns : goal.returns
returns g c =
    let view = g.S.Space.view in
    let t = rw c.deref.ensures.value at c.give_back_entries.ensures in
    let r = rw c.deref-2.ensures.value at c.give_back_entries-2.ensures in
    two_back (view c.args.space.now) (view c.give_back_entries.new.space) (view c.give_back_entries-2.new.space)
    c.args.children.now.level.items c.args.children.now.falling.items c.requires.distinct c.requires.valid t r

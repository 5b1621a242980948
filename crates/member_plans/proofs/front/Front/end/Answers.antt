use Rattle.std.proofs.Common.{◌<◌}
use Rattle.lazy_plans.specs.Law.{top}
use Rattle.prefix_tree.specs.Entries.{queued_entries}
use Rattle.prefix_tree.specs.declared.entry.Entry.{Entry}
use Rattle.member_plans.specs.Opened.{keys_of}
use Rattle.member_plans.specs.Front.{opened, waiting_members, opened_places}
use Rattle.prefix_plans.proofs.Dearest.{dear_each, inside_each}
use Rattle.prefix_plans.proofs.Permuting.{permuted_each}
use Rattle.member_plans.proofs.Beside.{both_same}
use Rattle.member_plans.proofs.Table.{table_cheap}
use Rattle.member_plans.proofs.Ranging.{ends_so, stops_so}
use Rattle.member_plans.proofs.Walking.{joined_each, joined_covers, kept_follows, left_follows, past_ends}
use Rattle.member_plans.proofs.front.Front.end.Goals as goal

pub returns-in_err-join-in-None-clause-follows : goal.returns-in_err-join-in-None-clause-follows
returns-in_err-join-in-None-clause-follows g c =
    let x = c.args.self.now in
    let q = c.join.new.self in
    let o = c.join.new.other in
    kept_follows (g.S.Space.view c.args.space.now) c.args.search.now c.args.most x q o c.requires.steady
    (both_same (queued_entries x.queue) (queued_entries x.other) (queued_entries q) (queued_entries o)
    c.in_err-join-in-None.ensures.err c.in_err-join-in-None.ensures.same)

pub is_left-requires-clause-inside : goal.is_left-requires-clause-inside
is_left-requires-clause-inside g c =
    let v = g.S.Space.view c.args.space.now in
    let f = c.args.search.now in
    let x = c.args.self.now in
    let q = c.join.new.self in
    rw c.deref.ensures.value (inside_each v f x.tree.items (queued_entries q)
    (joined_each v f c.args.most x q c.in_ok-join-in-None.ensures.ok c.requires.steady))

pub returns-in_err-is_left-in-None-clause-follows : goal.returns-in_err-is_left-in-None-clause-follows
returns-in_err-is_left-in-None-clause-follows g c =
    let v = g.S.Space.view c.args.space.now in
    let x = c.args.self.now in
    let j = c.in_ok-join-in-None.ensures in
    left_follows v c.args.search.now c.args.most x c.join.new.self j.ok c.requires.steady
    (g.S.Space.view c.is_left.new.space) c.is_left.new.queue c.join.new.other c.is_left.ensures.stays j.none
    (rw c.deref.ensures.value at c.is_left.ensures.drops)

pub returns-then-branch-clause-follows : goal.returns-then-branch-clause-follows
returns-then-branch-clause-follows g c =
    let v = g.S.Space.view c.args.space.now in
    let x = c.args.self.now in
    let j = c.in_ok-join-in-None.ensures in
    left_follows v c.args.search.now c.args.most x c.join.new.self j.ok c.requires.steady
    (g.S.Space.view c.is_left.new.space) c.is_left.new.queue c.join.new.other c.is_left.ensures.stays j.none
    (rw c.deref.ensures.value at c.is_left.ensures.drops)

pub returns-else-branch-clause-follows : goal.returns-else-branch-clause-follows
returns-else-branch-clause-follows g c =
    let v = g.S.Space.view c.args.space.now in
    let x = c.args.self.now in
    let j = c.in_ok-join-in-None.ensures in
    left_follows v c.args.search.now c.args.most x c.join.new.self j.ok c.requires.steady
    (g.S.Space.view c.is_left.new.space) c.is_left.new.queue c.join.new.other c.is_left.ensures.stays j.none
    (rw c.deref.ensures.value at c.is_left.ensures.drops)

pub returns-in-Some-clause-ok : goal.returns-in-Some-clause-ok
returns-in-Some-clause-ok g c = past_ends (g.S.Space.view c.args.space.now) c.args.search.now c.args.most
    c.in-Some.field-0 c.args.self.now c.in-Some.is c.requires.steady c.requires.dear

pub returns-then-branch-clause-ok : goal.returns-then-branch-clause-ok
returns-then-branch-clause-ok g c =
    let v = g.S.Space.view c.args.space.now in
    let f = c.args.search.now in
    let most = c.args.most in
    let x = c.args.self.now in
    let z = c.requires.steady in
    let q = c.join.new.self in
    let es = queued_entries q in
    let joined = c.in_ok-join-in-None.ensures.ok in
    let cheap = rw c.in-None.is at (table_cheap v.system most x.tree.items (opened_places x) (keys_of x.opened) z.table) in
    let dear = permuted_each (λ (k : Entry). top most < k.bound.0) (waiting_members x) es joined c.requires.dear in
    stops_so v.system x.tree.items (opened x) es (queued_entries c.is_left.new.queue)
    (rw c.deref.ensures.value at c.is_left.ensures.drops) most _
    (rw c.deref.ensures.value at c.in_ok-is_left-in-None.ensures.told) z.serves.lists (joined_covers v f most x q joined z)
    c.if-branch.true c.in-None.is
    (dear_each v f x.tree.items es (joined_each v f most x q joined z) (rw c.in-None.is at dear)) cheap

pub returns-else-branch-clause-ok : goal.returns-else-branch-clause-ok
returns-else-branch-clause-ok g c =
    let v = g.S.Space.view c.args.space.now in
    let most = c.args.most in
    let x = c.args.self.now in
    let z = c.requires.steady in
    let q = c.join.new.self in
    ends_so v.system x.tree.items (opened x) (queued_entries q) (queued_entries c.is_left.new.queue)
    (rw c.deref.ensures.value at c.is_left.ensures.drops) most _
    (rw c.deref.ensures.value at c.in_ok-is_left-in-None.ensures.told) z.serves.lists
    (joined_covers v c.args.search.now most x q c.in_ok-join-in-None.ensures.ok z) c.if-branch.false

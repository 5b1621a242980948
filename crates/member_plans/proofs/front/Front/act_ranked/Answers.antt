use Rattle.std.proofs.Common.{refl}
use Rattle.prefix_tree.specs.StateGraph.{states_of}
use Rattle.prefix_tree.specs.Entries.{queued_entries}
use Rattle.member_plans.specs.Opened.{keys_of}
use Rattle.member_plans.specs.Front.{opened_places}
use Rattle.member_plans.proofs.Beside.{first_entry}
use Rattle.member_plans.proofs.Table.{table_inside}
use Rattle.member_plans.proofs.Opening.{retold_steady, retold_follows}
use Rattle.member_plans.proofs.Walking.{follows_then}
use Rattle.member_plans.proofs.Halting.{joined_now, due_now, more_now}
use Rattle.member_plans.proofs.front.Front.act_ranked.Goals as goal

pub meets-requires-clause-linked : goal.meets-requires-clause-linked
meets-requires-clause-linked g c = rw c.deref.ensures.value c.requires.steady.ready.tree.linked

pub meets-requires-clause-node : goal.meets-requires-clause-node
meets-requires-clause-node g c =
    let v = g.S.Space.view c.args.space.now in
    let x = c.args.self.now in
    let k = first_entry v c.args.search.now x.graph x.tree.items (queued_entries x.queue) (queued_entries x.other)
    c.args.entry c.requires.some c.requires.first c.requires.steady.ready in
    rw c.deref.ensures.value k.inside

pub meets-requires-clause-inside : goal.meets-requires-clause-inside
meets-requires-clause-inside g c =
    let v = g.S.Space.view c.args.space.now in
    let x = c.args.self.now in
    rw c.deref.ensures.value (table_inside v.system c.args.most x.tree.items (opened_places x) (keys_of x.opened) c.requires.steady.table)

pub drop_joined-requires-clause-steady : goal.drop_joined-requires-clause-steady
drop_joined-requires-clause-steady g c = retold_steady (g.S.Space.view c.args.space.now) c.args.search.now c.args.most
    c.args.self.now c.meets.new.self c.meets.ensures.places c.meets.ensures.keys c.requires.steady

pub drop_joined-requires-clause-joined : goal.drop_joined-requires-clause-joined
drop_joined-requires-clause-joined g c =
    let v = g.S.Space.view c.args.space.now in
    let f = c.args.search.now in
    let x = c.args.self.now in
    let z = c.requires.steady in
    let k = first_entry v f x.graph x.tree.items (queued_entries x.queue) (queued_entries x.other) c.args.entry c.requires.some c.requires.first z.ready in
    let met = (rw c.deref.ensures.value at c.in_ok-meets.ensures.met) v.system c.args.most (states_of x.graph) z.ready.tree z.ready.graph.once z.table k.plan in
    joined_now v f c.args.most x c.meets.new.self c.meets.ensures.places c.meets.ensures.keys z c.args.entry _ met c.if-branch.true

pub pass-requires-clause-steady : goal.pass-requires-clause-steady
pass-requires-clause-steady g c = retold_steady (g.S.Space.view c.args.space.now) c.args.search.now c.args.most
    c.args.self.now c.meets.new.self c.meets.ensures.places c.meets.ensures.keys c.requires.steady

pub returns-in_err-meets-clause-follows : goal.returns-in_err-meets-clause-follows
returns-in_err-meets-clause-follows g c = retold_follows (g.S.Space.view c.args.space.now) c.args.search.now
    c.args.most c.args.self.now c.meets.new.self c.meets.ensures.places c.meets.ensures.keys c.requires.steady

pub returns-in_err-drop_joined-clause-follows : goal.returns-in_err-drop_joined-clause-follows
returns-in_err-drop_joined-clause-follows g c =
    let m = c.meets.ensures in
    let told = retold_follows (g.S.Space.view c.args.space.now) c.args.search.now c.args.most c.args.self.now
    c.meets.new.self m.places m.keys c.requires.steady in
    follows_then refl told c.drop_joined.ensures.follows

pub returns-then-branch-clause-follows : goal.returns-then-branch-clause-follows
returns-then-branch-clause-follows g c =
    let m = c.meets.ensures in
    let told = retold_follows (g.S.Space.view c.args.space.now) c.args.search.now c.args.most c.args.self.now
    c.meets.new.self m.places m.keys c.requires.steady in
    follows_then refl told c.drop_joined.ensures.follows

pub returns-then-entry-clause-follows : goal.returns-then-entry-clause-follows
returns-then-entry-clause-follows g c = retold_follows (g.S.Space.view c.args.space.now) c.args.search.now c.args.most
    c.args.self.now c.meets.new.self c.meets.ensures.places c.meets.ensures.keys c.requires.steady

pub returns-then-entry-clause-ok : goal.returns-then-entry-clause-ok
returns-then-entry-clause-ok g c =
    let v = g.S.Space.view c.args.space.now in
    let f = c.args.search.now in
    let x = c.args.self.now in
    let z = c.requires.steady in
    let k = first_entry v f x.graph x.tree.items (queued_entries x.queue) (queued_entries x.other) c.args.entry c.requires.some c.requires.first z.ready in
    let met = (rw c.deref.ensures.value at c.in_ok-meets.ensures.met) v.system c.args.most (states_of x.graph) z.ready.tree z.ready.graph.once z.table k.plan in
    due_now v f c.args.most x c.meets.new.self c.meets.ensures.places c.meets.ensures.keys z c.args.entry _ met
    c.if-branch.false c.requires.some c.requires.first c.requires.least c.requires.cheap c.if-entry.true

pub returns-in_err-pass-clause-follows : goal.returns-in_err-pass-clause-follows
returns-in_err-pass-clause-follows g c =
    let m = c.meets.ensures in
    let told = retold_follows (g.S.Space.view c.args.space.now) c.args.search.now c.args.most c.args.self.now
    c.meets.new.self m.places m.keys c.requires.steady in
    follows_then refl told c.pass.ensures.follows

pub returns-clause-follows : goal.returns-clause-follows
returns-clause-follows g c =
    let m = c.meets.ensures in
    let told = retold_follows (g.S.Space.view c.args.space.now) c.args.search.now c.args.most c.args.self.now
    c.meets.new.self m.places m.keys c.requires.steady in
    follows_then refl told c.pass.ensures.follows

pub returns-clause-ok : goal.returns-clause-ok
returns-clause-ok g c = (
  more_now (opened_places c.args.self.now) _ (opened_places c.pass.new.self) c.meets.ensures.places
      c.in_ok-pass.ensures.more,
  c.in_ok-pass.ensures.fits,
)

use Rattle.std.proofs.Common.{◌≡◌, List, ◌++◌, Result, Ok, Err, OnOk, OnErr, subst, sym}
use Rattle.prefix_tree.specs.Entries.{queued_entries, prefixes}
use Rattle.prefix_tree.specs.declared.entry.Entry.{Entry}
use Rattle.prefix_plans.specs.EndChildren.{IsEndEntry}
use Rattle.member_laws.specs.Nodes.{CoversOpened}
use Rattle.member_plans.specs.Front.{opened, waiting_members}
use Rattle.prefix_plans.proofs.Permuting.{join_each, right_each}
use Rattle.member_plans.proofs.Beside.{ready_left, learned_beside}
use Rattle.member_plans.proofs.Turning.{learned_covers, learned_less}
use Rattle.member_plans.proofs.Walking.{follows_requeued, requeued, reranked_follows}
use Rattle.member_plans.proofs.front.Front.learn.Goals as goal

-- what covers covers, refused or not
either : {X E : Type 0} (P : List Entry → Type 0) (q new : List Entry) (L : Type 0) (r : Result X E) → OnOk r L → OnErr r (new ≡ q) → (L → P new) → P q → P new
either P q new L (Ok x) ok err on here = on ok
either P q new L (Err e) ok err on here = subst P (sym err) here

on_ok : {X E : Type 0} (A B : Type 0) (r : Result X E) → (A → B) → OnOk r A → OnOk r B
on_ok A B (Ok x) f h = f h
on_ok A B (Err e) f h = tt

pub learn-requires-clause-ready : goal.learn-requires-clause-ready
learn-requires-clause-ready g c =
    let x = c.args.self.now in
    rw c.deref.ensures.value (ready_left (g.S.Space.view c.args.space.now) c.args.search.now x.graph x.tree.items
    (queued_entries x.queue) (queued_entries x.other) c.requires.steady.ready)

pub returns-clause-follows : goal.returns-clause-follows
returns-clause-follows g c =
    let v = g.S.Space.view c.args.space.now in
    let f = c.args.search.now in
    let x = c.args.self.now in
    let z = c.requires.steady in
    let e = c.args.entry in
    let q = queued_entries x.queue in
    let o = queued_entries x.other in
    let new = queued_entries c.learn.new.queue in
    let P = IsEndEntry v f x.tree.items in
    let each = join_each P new o (rw c.deref.ensures.value at c.learn.ensures.ready).each (right_each P q o z.ready.each) in
    let covers = either (λ (l : List Entry). CoversOpened v.system (opened x) (prefixes x.tree.items (l ++ o))) q new _
    c.learn.result (rw c.deref.ensures.value at c.learn.ensures.ok) c.learn.ensures.err
    (λ l. learned_covers v f x.graph x.tree.items (waiting_members x) (new ++ o) e (opened x) z.covers
    (learned_beside v f x.tree.items q o new e l)) z.covers in
    reranked_follows v f c.args.most x (requeued x c.learn.new.queue x.other) c.learn.new.self
    (follows_requeued v f c.args.most x c.learn.new.queue x.other z each covers)

pub returns-clause-less : goal.returns-clause-less
returns-clause-less g c =
    let v = g.S.Space.view c.args.space.now in
    let f = c.args.search.now in
    let x = c.args.self.now in
    let z = c.requires.steady in
    let e = c.args.entry in
    let q = queued_entries x.queue in
    let o = queued_entries x.other in
    let new = queued_entries c.learn.new.queue in
    on_ok _ _ c.learn.result (λ l. learned_less v f x.graph x.tree.items (waiting_members x) (new ++ o) e (opened x) z.covers
    c.requires.open c.requires.more (learned_beside v f x.tree.items q o new e l))
    (rw c.deref.ensures.value at c.learn.ensures.ok)

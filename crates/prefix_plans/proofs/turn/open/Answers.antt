use Rattle.prefix_tree.specs.Entries.{queued_entries}
use Rattle.prefix_tree.proofs.Entries.{prefixes_like}
use Rattle.prefix_plans.specs.EndChildren.{IsEndEntry}
use Rattle.prefix_plans.proofs.Replacing.{on_err, ready_grown, replaced_perm}
use Rattle.prefix_plans.proofs.Turning.{open_ready, open_opens}
use Rattle.prefix_plans.proofs.turn.open.Goals as goal

pub returns-clause-ready : goal.returns-clause-ready
returns-clause-ready g c =
    let v = g.S.Space.view c.args.space.now in
    let x = c.args.front.now in
    let w = c.expand.new.front in
    let z = c.expand.ensures in
    let kids = c.in_ok-children.children.items in
    let q = c.replace.new.self in
    let perm = replaced_perm (queued_entries x.queue) (queued_entries w.queue) kids (queued_entries q) c.args.entry z.queue
    c.requires.first.first c.replace.ensures.replaces in
    open_ready v c.args.search.now x w kids q c.args.entry z.graph z.grows c.requires.ready c.requires.first
    c.requires.ranked c.in_ok-children.ensures.children perm

pub returns-clause-ok : goal.returns-clause-ok
returns-clause-ok g c =
    let v = g.S.Space.view c.args.space.now in
    let x = c.args.front.now in
    let w = c.expand.new.front in
    let z = c.expand.ensures in
    let kids = c.in_ok-children.children.items in
    let q = c.replace.new.self in
    let perm = replaced_perm (queued_entries x.queue) (queued_entries w.queue) kids (queued_entries q) c.args.entry z.queue
    c.requires.first.first c.replace.ensures.replaces in
    open_opens v c.args.search.now x w kids q c.args.entry z.graph z.grows c.requires.ready c.requires.first
    c.requires.ranked c.in_ok-children.ensures.children perm
    c.in_ok-plan.plan (rw c.deref.ensures.value at c.in_ok-plan.ensures)

pub returns-in_err-children-clause-ready : goal.returns-in_err-children-clause-ready
returns-in_err-children-clause-ready g c =
    let x = c.args.front.now in
    let w = c.expand.new.front in
    let z = c.expand.ensures in
    rw z.queue (ready_grown (g.S.Space.view c.args.space.now) c.args.search.now x.graph w.graph x.tree.items
    w.tree.items (queued_entries x.queue) z.graph z.grows c.requires.ready)

pub returns-in_err-children-clause-err : goal.returns-in_err-children-clause-err
returns-in_err-children-clause-err g c =
    let x = c.args.front.now in
    let w = c.expand.new.front in
    let z = c.expand.ensures in
    let each = IsEndEntry (g.S.Space.view c.args.space.now) c.args.search.now x.tree.items in
    on_err c.from_residual-in_err-children.result (rw z.queue
    (prefixes_like each x.tree.items w.tree.items (queued_entries x.queue) (λ k i. i.inside) z.grows.paths
    c.requires.ready.each))

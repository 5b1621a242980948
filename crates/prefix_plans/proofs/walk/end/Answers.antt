use Rattle.prefix_tree.specs.Entries.{queued_entries}
use Rattle.prefix_tree.specs.StateGraph.{states_of}
use Rattle.prefix_plans.specs.EndChildren.{IsEndEntry}
use Rattle.prefix_plans.specs.Left.{known_to_go}
use Rattle.prefix_plans.proofs.Dearest.{inside_each, dear_each}
use Rattle.prefix_plans.proofs.Dropping.{drops_each}
use Rattle.prefix_plans.proofs.Ranging.{drops_keeps, ends_so, stops_so}
use Rattle.prefix_plans.proofs.Replacing.{on_err}
use Rattle.prefix_plans.proofs.Walking.{past_ends, ready_left}
use Rattle.prefix_plans.proofs.walk.end.Goals as goal

pub is_left-requires-clause-inside : goal.is_left-requires-clause-inside
is_left-requires-clause-inside g c =
    let x = c.args.front.now in
    rw c.deref.ensures.value (inside_each (g.S.Space.view c.args.space.now) c.args.search.now x.tree.items (queued_entries x.queue) c.requires.ready.each)

pub returns-in_err-is_left-in-None-clause-ready : goal.returns-in_err-is_left-in-None-clause-ready
returns-in_err-is_left-in-None-clause-ready g c =
    let v = g.S.Space.view c.args.space.now in
    let f = c.args.search.now in
    let x = c.args.front.now in
    ready_left v (g.S.Space.view c.is_left.new.space) f x c.is_left.new.queue c.is_left.ensures.stays c.requires.ready
    (drops_each (IsEndEntry v f x.tree.items) (rw c.deref.ensures.value at c.is_left.ensures.drops))

pub returns-then-branch-clause-ready : goal.returns-then-branch-clause-ready
returns-then-branch-clause-ready g c =
    let v = g.S.Space.view c.args.space.now in
    let f = c.args.search.now in
    let x = c.args.front.now in
    ready_left v (g.S.Space.view c.is_left.new.space) f x c.is_left.new.queue c.is_left.ensures.stays c.requires.ready
    (drops_each (IsEndEntry v f x.tree.items) (rw c.deref.ensures.value at c.is_left.ensures.drops))

pub returns-else-branch-clause-ready : goal.returns-else-branch-clause-ready
returns-else-branch-clause-ready g c =
    let v = g.S.Space.view c.args.space.now in
    let f = c.args.search.now in
    let x = c.args.front.now in
    ready_left v (g.S.Space.view c.is_left.new.space) f x c.is_left.new.queue c.is_left.ensures.stays c.requires.ready
    (drops_each (IsEndEntry v f x.tree.items) (rw c.deref.ensures.value at c.is_left.ensures.drops))

pub returns-in_err-is_left-in-None-clause-err : goal.returns-in_err-is_left-in-None-clause-err
returns-in_err-is_left-in-None-clause-err g c =
    let y = (g.S.Space.view c.args.space.now).system in
    let x = c.args.front.now in
    on_err c.from_residual.result (drops_keeps y (states_of x.graph) x.tree.items c.requires.ready.tree c.args.most
    (queued_entries x.queue) (queued_entries c.is_left.new.queue) c.requires.right (rw c.deref.ensures.value at c.is_left.ensures.drops))

pub returns-in-Some-clause-ok : goal.returns-in-Some-clause-ok
returns-in-Some-clause-ok g c =
    let f = c.args.search.now in
    past_ends (g.S.Space.view c.args.space.now) f (known_to_go f) c.args.most c.in-Some.field-0 c.args.front.now
    c.in-Some.is c.requires.ready c.requires.dear c.requires.right

pub returns-then-branch-clause-ok : goal.returns-then-branch-clause-ok
returns-then-branch-clause-ok g c =
    let v = g.S.Space.view c.args.space.now in
    let x = c.args.front.now in
    let z = c.requires.ready in
    let es = queued_entries x.queue in
    stops_so v.system (states_of x.graph) x.tree.items z.tree c.args.most es (queued_entries c.is_left.new.queue) c.requires.right
    (rw c.deref.ensures.value at c.is_left.ensures.drops) _ (rw c.deref.ensures.value at c.in_ok-is_left-in-None.ensures.told) c.if-branch.true
    c.in-None.is (dear_each v c.args.search.now x.tree.items es z.each (rw c.in-None.is at c.requires.dear))

pub returns-else-branch-clause-ok : goal.returns-else-branch-clause-ok
returns-else-branch-clause-ok g c =
    let v = g.S.Space.view c.args.space.now in
    let x = c.args.front.now in
    ends_so v.system (states_of x.graph) x.tree.items c.requires.ready.tree c.args.most (queued_entries x.queue)
    (queued_entries c.is_left.new.queue) c.requires.right (rw c.deref.ensures.value at c.is_left.ensures.drops) _
    (rw c.deref.ensures.value at c.in_ok-is_left-in-None.ensures.told) c.if-branch.false

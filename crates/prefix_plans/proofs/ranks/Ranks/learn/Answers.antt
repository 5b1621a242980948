use Rattle.prefix_tree.specs.Entries.{queued_entries}
use Rattle.prefix_plans.proofs.Replacing.{learned_perm, learned_ready}
use Rattle.prefix_plans.proofs.ranks.Ranks.learn.Goals as goal

pub returns-clause-ready : goal.returns-clause-ready
returns-clause-ready g c =
    let v = g.S.Space.view c.args.heuristic.now.space.now in
    let es = queued_entries c.args.queue.now in
    let new = queued_entries c.replace.new.self in
    let perm = learned_perm es (queued_entries c.make_room.new.self) c.in_ok-others.others.items new
    c.improve-better.result c.args.entry c.make_room.ensures.same c.in_ok-others.ensures c.requires.first
    c.replace.ensures.replaces in
    learned_ready v c.args.heuristic.now.search.now c.args.heuristic.now.graph.now c.args.tree.now es new c.args.entry c.requires.ready
    c.improve-better.result c.improve-better.ensures perm

pub returns-clause-ok : goal.returns-clause-ok
returns-clause-ok g c =
    let es = queued_entries c.args.queue.now in
    let new = queued_entries c.replace.new.self in
    let perm = learned_perm es (queued_entries c.make_room.new.self) c.in_ok-others.others.items new
    c.improve-better.result c.args.entry c.make_room.ensures.same c.in_ok-others.ensures c.requires.first
    c.replace.ensures.replaces in
    (c.improve-better.result, c.improve-better.ensures, perm)

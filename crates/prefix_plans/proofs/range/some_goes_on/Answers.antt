use Rattle.std.proofs.Common.{◌<◌, length, arith}
use Rattle.prefix_tree.specs.Entries.{queued_entries}
use Rattle.prefix_tree.specs.declared.entry.Entry.{Entry}
use Rattle.prefix_tree.specs.StateGraph.{states_of}
use Rattle.prefix_tree.specs.Tree.{path_at}
use Rattle.prefix_tree.proofs.Entries.{first_is}
use Rattle.space_api.proofs.Trading.{valid_clash}
use Rattle.prefix_plans.specs.Leading.{GoesOnFrom}
use Rattle.prefix_plans.proofs.Replacing.{replaced_perm}
use Rattle.prefix_plans.proofs.Dropping.{drops_none, drops_each, tells_first, drops_first, fewer}
use Rattle.prefix_plans.proofs.range.some_goes_on.Goals as goal

pub entries-init : goal.entries-init
entries-init g c = record {
  drops = drops_none (g.S.Space.view c.args.space.now).system c.args.tree.now (queued_entries c.args.queue.now);
  steps = omega arith;
}

pub goes_on-requires-clause-inside : goal.goes_on-requires-clause-inside
goes_on-requires-clause-inside g c = first_is (λ (k : Entry). k.node < length c.args.tree.now)
    (queued_entries c.entries.queue) c.in-Some.entry c.in-Some.ensures.some c.in-Some.ensures.at
    (drops_each (λ (k : Entry). k.node < length c.args.tree.now) c.entries.invariant.drops c.requires.inside)

pub returns-then-goes_on-clause-told : goal.returns-then-goes_on-clause-told
returns-then-goes_on-clause-told g c = tells_first (g.S.Space.view c.args.space.now).system (states_of c.args.graph.now)
    c.args.tree.now c.requires.tree (queued_entries c.entries.queue) c.in-Some.entry c.in-Some.ensures.some
    c.in-Some.ensures.at (c.goes_on.ensures.0 c.if-goes_on.true)

pub entries-smaller : goal.entries-smaller
entries-smaller g c =
    let y = (g.S.Space.view c.args.space.now).system in
    let nodes = c.args.tree.now in
    let es = queued_entries c.entries.queue in
    let e = c.in-Some.entry in
    let is = c.in-Some.ensures in
    let inside = drops_each (λ (k : Entry). k.node < length nodes) c.entries.invariant.drops c.requires.inside in
    let off : ¬ GoesOnFrom y (path_at nodes e.node) = (λ h. valid_clash (c.goes_on.ensures.1 h) c.if-goes_on.false) in
    let kids = c.new.result.items in
    let new = queued_entries c.replace.new.self in
    let perm = replaced_perm es (queued_entries c.make_room.new.self) kids new e c.make_room.ensures.same is.at c.replace.ensures.replaces in
    fewer y (states_of c.args.graph.now) nodes c.requires.tree es e is.some is.at inside off kids new c.new.ensures.items perm

pub entries-preserved : goal.entries-preserved
entries-preserved g c =
    let y = (g.S.Space.view c.args.space.now).system in
    let nodes = c.args.tree.now in
    let es = queued_entries c.entries.queue in
    let e = c.in-Some.entry in
    let is = c.in-Some.ensures in
    let i = c.entries.invariant in
    let inside = drops_each (λ (k : Entry). k.node < length nodes) i.drops c.requires.inside in
    let off : ¬ GoesOnFrom y (path_at nodes e.node) = (λ h. valid_clash (c.goes_on.ensures.1 h) c.if-goes_on.false) in
    let kids = c.new.result.items in
    let new = queued_entries c.replace.new.self in
    let perm = replaced_perm es (queued_entries c.make_room.new.self) kids new e c.make_room.ensures.same is.at c.replace.ensures.replaces in
    record {
      drops = drops_first y (states_of c.args.graph.now) nodes c.requires.tree es e is.some is.at inside off kids new
          c.new.ensures.items perm (queued_entries c.args.queue.now) i.drops;
      steps = omega (arith, i.steps, c.replace.ensures.steps);
    }

pub returns-in_err-make_room-in-Some-clause-drops : goal.returns-in_err-make_room-in-Some-clause-drops
returns-in_err-make_room-in-Some-clause-drops g c =
    rw c.make_room.ensures.same c.entries.invariant.drops

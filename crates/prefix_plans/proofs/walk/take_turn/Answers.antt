use Rattle.std.proofs.Common.{◌<◌, ◌≤◌, ◌^◌, arith}
use Rattle.lazy_plans.specs.Law.{top}
use Rattle.prefix_tree.specs.Entries.{queued_entries}
use Rattle.prefix_plans.specs.Standing.{IsPrefixFirst}
use Rattle.prefix_plans.proofs.Walking.{acts_ok}
use Rattle.prefix_plans.proofs.walk.take_turn.Goals as goal

pub returns-else-entry-top_of-clause-ok : goal.returns-else-entry-top_of-clause-ok
returns-else-entry-top_of-clause-ok g c =
    let v = g.S.Space.view c.args.space.now in
    let e = c.in-Some.ensures in
    let first : IsPrefixFirst c.in-Some.entry (queued_entries c.args.front.now.queue) = record { some = e.some; first = e.at; order = e.order } in
    let cheap : c.in-Some.entry.bound.0 ≤ top c.args.most = omega (arith, c.top_of.ensures) in
    let range : top c.args.most < 2 ^ 64 = omega (arith, c.top_of.ensures) in
    acts_ok v c.args.search.now c.args.most c.in-Some.entry c.args.front.now c.act.new.front c.requires.ready first
    cheap range c.requires.right c.act.result c.act.ensures.ok

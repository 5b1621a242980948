use Rattle.prefix_tree.specs.Entries.{queued_entries}
use Rattle.member_plans.proofs.Beside.{first_entry}
use Rattle.member_plans.proofs.Opening.{pass_follows}
use Rattle.member_plans.proofs.front.Front.pass.Goals as goal

pub returns-clause-follows : goal.returns-clause-follows
returns-clause-follows g c =
    let v = g.S.Space.view c.args.space.now in
    let f = c.args.search.now in
    let x = c.args.self.now in
    let o = c.open.ensures in
    let k = first_entry v f x.graph x.tree.items (queued_entries x.queue) (queued_entries x.other) c.args.entry
    c.requires.some c.requires.first c.requires.steady.ready in
    pass_follows v f c.args.most x c.open.new.self c.args.entry k c.requires.off o.steady c.open.result o.ok o.err o.more o.same
